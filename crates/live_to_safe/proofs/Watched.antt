-- One position of the translation: the circuit's own, and what is watched at it.
use Rattle.std.proofs.Common.{◌≡◌, ℕ, ◌+◌, ◌*◌, ◌<◌, ◌≤◌, Bool, true, false, not, cond, ◌&&◌, ◌||◌, List, [], ◌∷◌, ◌++◌, map, length, get_or, drop, refl, sym, ap, ◌∙◌, arith, length-append}
use Rattle.std.specs.List.{All}
use Rattle.std.proofs.lemmas.List.{map-append}
use Rattle.aig_semantics.specs.declared.parts.Latch.{Latch}
use Rattle.aig_semantics.specs.declared.parts.Gate.{Gate}
use Rattle.aig_semantics.specs.declared.traces.Position.{Position}
use Rattle.aig_semantics.specs.Literals.{variable_of, literal_by, variable_in}
use Rattle.aig_semantics.specs.Circuits.{Circuit, IsChecked, IsWithinLimits, fair_literals}
use Rattle.aig_semantics.specs.Valuations.{conjunction, HasOneValuation}
use Rattle.aig_semantics.specs.Runs.{IsPosition, position_of, valuation_at, literal_at, successor, MeetsConstraints}
use Rattle.aig_semantics.proofs.Lists.{All-left, All-right}
use Rattle.live_to_safe.specs.declared.sizes.Sizes.{Sizes}
use Rattle.live_to_safe.specs.Numbers.{sizes_of, save, saved, copy, seen, saving, idle, latch_gate, literal_gate, bad_gate}
use Rattle.live_to_safe.specs.Watching.{numbered, for_each, copy_latch, seen_latch, new_latches, saving_gates, latch_gates, literal_gates, chain, back_and_seen, new_gates, bad_literal}
use Rattle.live_to_safe.specs.Translation.{safety_circuit}
use Rattle.live_to_safe.proofs.Lists.{numbered-length, map_numbered, numbered_agrees, map_agrees, split_same}
use Rattle.live_to_safe.proofs.Extending.{own_read, fair_all, Extension, own-given, watch-given, inputs-given, new-meet, literal-is, step-on, constraints-kept, constraints-back}
use Rattle.live_to_safe.proofs.Defining.{watching}
use Rattle.live_to_safe.proofs.Valued.{positive-value, negative-value, same_lists, seen_after, all_true, saving-is, idle-is, copies-next, seens-next, bad-is}

-- a state is saved now or was before
on_is : (save saved : Bool) → not (not save && not saved) ≡ (save || saved)
on_is true saved = refl
on_is false true = refl
on_is false false = refl

-- ---- positions

-- the values of the latches that watch
abbrev pub watch_state : Bool → List Bool → List Bool → List Bool
watch_state saved copies seens = saved ∷ (copies ++ seens)

-- a position with what is watched at it
abbrev pub joint : Position → Bool → List Bool → List Bool → Bool → Position
joint p saved copies seens save = position_of (p.latches ++ watch_state saved copies seens) (p.inputs ++ save ∷ [])

-- what is watched next
abbrev pub watch_next : Circuit → ℕ → Position → Bool → List Bool → List Bool → Bool → List Bool
watch_next c j p saved copies seens save =
    watch_state (save || saved) (cond (save && not saved) p.latches copies)
    (seen_after (save || saved) seens (map (literal_at c p) (fair_literals c j)))

pub new-length : (z : Sizes) → length (new_latches z) ≡ 1 + (z.latches + z.literals)
new-length z =
    omega (
      arith,
      length-append (numbered (copy_latch z) 0 z.latches) (numbered (seen_latch z) 0 z.literals),
      numbered-length (copy_latch z) 0 z.latches,
      numbered-length (seen_latch z) 0 z.literals,
    )

module _ (c : Circuit) (j : ℕ) (checked : IsChecked c) (limits : IsWithinLimits c) (property : j < length c.justice) (one : HasOneValuation c) (other : HasOneValuation (safety_circuit c j)) where
  abbrev z : Sizes
  z = sizes_of c j

  abbrev t : Circuit
  t = safety_circuit c j

  abbrev more : Extension c
  more = watching c j checked limits property

  module _ (p : Position) (is_saved : Bool) (copies seens : List Bool) (saves : Bool) (is : IsPosition c p) (copies-fit : length copies ≡ length c.latches) (seens-fit : length seens ≡ length (fair_literals c j)) where
    abbrev whole : Position
    whole = joint p is_saved copies seens saves

    abbrev value : ℕ → Bool
    value v = variable_in (valuation_at t whole) v

    abbrev watch : List Bool
    watch = watch_state is_saved copies seens

    abbrev values : List Bool
    values = p.inputs ++ saves ∷ []

    fit : length watch ≡ length (new_latches z)
    fit =
        let b = length-append copies seens in
        omega (arith, b, new-length z, copies-fit, seens-fit)

    abbrev Meets : Gate → Type 0
    Meets gate = value gate.var ≡ conjunction value gate

    -- ---- what is given

    own-latches : map (λ latch. value latch.var) c.latches ≡ p.latches
    own-latches = own-given c checked limits more one other p watch (saves ∷ []) values is fit refl refl

    new-values : map (λ latch. value latch.var) (new_latches z) ≡ watch
    new-values = watch-given c checked limits more one other p watch (saves ∷ []) values is fit refl refl

    new-inputs : map value (save z ∷ []) ≡ saves ∷ []
    new-inputs = inputs-given c checked limits more one other p watch (saves ∷ []) values is fit refl refl

    save-is : value (save z) ≡ saves
    save-is = ap (λ xs. get_or xs 0 false) new-inputs

    saved-is : value (saved z) ≡ is_saved
    saved-is = ap (λ xs. get_or xs 0 false) new-values

    split-new : (numbered (λ i. value (copy z i)) 0 z.latches ≡ copies) × (numbered (λ m. value (seen z m)) 0 z.literals ≡ seens)
    split-new =
        let of_copies = map_numbered (λ latch. value latch.var) (copy_latch z) 0 z.latches in
        let of_seens = map_numbered (λ latch. value latch.var) (seen_latch z) 0 z.literals in
        split_same (numbered (λ i. value (copy z i)) 0 z.latches) copies (numbered (λ m. value (seen z m)) 0 z.literals) seens
        (numbered-length (λ i. value (copy z i)) 0 z.latches ∙ sym copies-fit)
        (ap (λ xs. xs ++ numbered (λ m. value (seen z m)) 0 z.literals) (sym of_copies)
        ∙ ap (λ xs. map (λ latch. value latch.var) (numbered (copy_latch z) 0 z.latches) ++ xs) (sym of_seens)
        ∙ sym (map-append (λ latch. value latch.var) (numbered (copy_latch z) 0 z.latches) (numbered (seen_latch z) 0 z.literals))
        ∙ ap (drop 1) new-values)

    -- a literal of the circuit is true at both positions or at neither
    same-at : (literal : ℕ) → variable_of literal ≤ c.max → literal_at t whole literal ≡ literal_at c p literal
    same-at = literal-is c checked limits more one other p watch (saves ∷ []) values is fit refl refl

    literals-are : (literals : List ℕ) → All (λ literal. variable_of literal ≤ c.max) literals → map (literal_at t whole) literals ≡ map (literal_at c p) literals
    literals-are literals low = map_agrees (literal_at t whole) (literal_at c p) literals (λ k d below. same-at (get_or literals k d) (low k d below))

    -- ---- the new gates

    all_new : All Meets (new_gates z c.latches (fair_literals c j))
    all_new = new-meet c checked limits more one other p watch (saves ∷ []) values is fit refl refl

    abbrev one_gates : List Gate
    one_gates = for_each (latch_gates z) 0 c.latches

    abbrev two_gates : List Gate
    two_gates = for_each (literal_gates z) 0 (fair_literals c j)

    upto_two : All Meets (saving_gates z ++ one_gates ++ two_gates)
    upto_two = All-left Meets (saving_gates z ++ one_gates ++ two_gates) (chain (bad_gate z) (2 * saved z) (back_and_seen z)) all_new

    of_saving : All Meets (saving_gates z)
    of_saving = All-left Meets (saving_gates z) one_gates (All-left Meets (saving_gates z ++ one_gates) two_gates upto_two)

    on-is : not (value (idle z)) ≡ (saves || is_saved)
    on-is =
        ap not (idle-is value z of_saving) ∙ on_is (value (save z)) (value (saved z))
        ∙ ap (λ x. x || value (saved z)) save-is ∙ ap (λ x. saves || x) saved-is

    now-is : value (saving z) ≡ (saves && not is_saved)
    now-is = saving-is value z of_saving ∙ ap (λ x. x && not (value (saved z))) save-is ∙ ap (λ x. saves && not x) saved-is

    next-copies : map (λ latch. literal_at t whole latch.next) (numbered (copy_latch z) 0 z.latches) ≡ cond (saves && not is_saved) p.latches copies
    next-copies =
        map_numbered (λ latch. literal_at t whole latch.next) (copy_latch z) 0 z.latches
        ∙ numbered_agrees (λ i. literal_by value (2 * (latch_gate z i + 2) + 1)) (λ i. not (value (latch_gate z i + 2))) 0 z.latches (λ i. negative-value value (latch_gate z i + 2))
        ∙ copies-next value z 0 c.latches (All-right Meets (saving_gates z) one_gates (All-left Meets (saving_gates z ++ one_gates) two_gates upto_two))
        ∙ ap (λ s. cond s (map (λ latch. value latch.var) c.latches) (numbered (λ i. value (copy z i)) 0 z.latches)) now-is
        ∙ ap (λ xs. cond (saves && not is_saved) xs (numbered (λ i. value (copy z i)) 0 z.latches)) own-latches
        ∙ ap (λ xs. cond (saves && not is_saved) p.latches xs) split-new.0

    next-seens : map (λ latch. literal_at t whole latch.next) (numbered (seen_latch z) 0 z.literals)
        ≡ seen_after (saves || is_saved) seens (map (literal_at c p) (fair_literals c j))
    next-seens =
        map_numbered (λ latch. literal_at t whole latch.next) (seen_latch z) 0 z.literals
        ∙ numbered_agrees (λ m. literal_by value (2 * (literal_gate z m + 1))) (λ m. value (literal_gate z m + 1)) 0 z.literals (λ m. positive-value value (literal_gate z m + 1))
        ∙ seens-next value z 0 (fair_literals c j) (All-right Meets (saving_gates z ++ one_gates) two_gates upto_two)
        ∙ ap (λ s. seen_after s (numbered (λ m. value (seen z m)) 0 z.literals) (map (literal_at t whole) (fair_literals c j))) on-is
        ∙ ap (λ xs. seen_after (saves || is_saved) xs (map (literal_at t whole) (fair_literals c j))) split-new.1
        ∙ ap (λ xs. seen_after (saves || is_saved) seens xs)
        (literals-are (fair_literals c j)
        (fair_all (λ literal. variable_of literal ≤ c.max) c j property
        (λ k d below. (own_read c checked limits k d below).0)))

    -- ---- the step, the bad state literal, the constraints

    pub step-is : successor t whole ≡ successor c p ++ watch_next c j p is_saved copies seens saves
    step-is =
        let next : Latch → Bool = λ latch. literal_at t whole latch.next in
        step-on c checked limits more one other p watch (saves ∷ []) values is fit refl refl
        ∙ ap (λ x. successor c p ++ x ∷ map next (numbered (copy_latch z) 0 z.latches ++ numbered (seen_latch z) 0 z.literals))
        (negative-value value (idle z) ∙ on-is)
        ∙ ap (λ xs. successor c p ++ (saves || is_saved) ∷ xs)
        (map-append next (numbered (copy_latch z) 0 z.latches) (numbered (seen_latch z) 0 z.literals)
        ∙ ap (λ xs. xs ++ map next (numbered (seen_latch z) 0 z.literals)) next-copies
        ∙ ap (λ xs. cond (saves && not is_saved) p.latches copies ++ xs) next-seens)

    pub bad-at : literal_at t whole (bad_literal z) ≡ (is_saved && (same_lists p.latches copies && all_true seens))
    bad-at =
        bad-is value z c.latches (fair_literals c j) refl all_new
        ∙ ap (λ x. x && (same_lists (map (λ latch. value latch.var) c.latches) (numbered (λ i. value (copy z i)) 0 z.latches) && all_true (numbered (λ m. value (seen z m)) 0 z.literals))) saved-is
        ∙ ap (λ xs. is_saved && (same_lists xs (numbered (λ i. value (copy z i)) 0 z.latches) && all_true (numbered (λ m. value (seen z m)) 0 z.literals))) own-latches
        ∙ ap (λ xs. is_saved && (same_lists p.latches xs && all_true (numbered (λ m. value (seen z m)) 0 z.literals))) split-new.0
        ∙ ap (λ xs. is_saved && (same_lists p.latches copies && all_true xs)) split-new.1

    pub kept : MeetsConstraints c p → MeetsConstraints t whole
    kept = constraints-kept c checked limits more one other p watch (saves ∷ []) values is fit refl refl

    pub back : MeetsConstraints t whole → MeetsConstraints c p
    back = constraints-back c checked limits more one other p watch (saves ∷ []) values is fit refl refl
