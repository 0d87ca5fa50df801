-- The monitor is the circuit with latches and gates more; one position of it, and what is counted at it.
use Rattle.std.proofs.Common.{◌≡◌, ℕ, zero, suc, ◌+◌, ◌*◌, ◌<◌, ◌≤◌, Bool, true, false, not, cond, ◌&&◌, ◌||◌, List, [], ◌∷◌, ◌++◌, map, length, get_or, replicate, refl, sym, ap, ◌∙◌, arith, length-append}
use Rattle.std.specs.List.{All, list_all, range_with_len}
use Rattle.std.proofs.lemmas.Bool.{false≢true}
use Rattle.std.proofs.lemmas.List.{map-append, append-nil}
use Rattle.std.proofs.lemmas.List.Elements.{All-nil}
use Rattle.aig_semantics.specs.declared.parts.Latch.{Latch}
use Rattle.aig_semantics.specs.declared.traces.Position.{Position}
use Rattle.aig_semantics.specs.declared.limits.TheConstants.{MAX_VARIABLE}
use Rattle.aig_semantics.specs.Literals.{literal_by, literal_in, variable_in}
use Rattle.aig_semantics.specs.Circuits.{Circuit, IsChecked, IsWithinLimits, fair_literals}
use Rattle.aig_semantics.specs.Valuations.{conjunction, HasOneValuation}
use Rattle.aig_semantics.specs.Runs.{IsPosition, position_of, valuation_at, literal_at, successor, MeetsConstraints}
use Rattle.aiger_grammar.specs.Models.{IsModel}
use Rattle.aiger_grammar.proofs.Ranges.{range_append}
use Rattle.aiger_grammar.proofs.Room.{has_room}
use Rattle.circuit.specs.Following.{seen_with}
use Rattle.live_to_safe.specs.Watching.{numbered}
use Rattle.live_to_safe.proofs.Lists.{cons-same, numbered-length, map_numbered, numbered_agrees, split_same}
use Rattle.live_to_safe.proofs.Before.{IsBefore, ReadsBefore}
use Rattle.live_to_safe.proofs.Extending.{IsOwn, own_read, fair_all, Extension, all-known, is-checked, watch-given, zero-is, new-meet, literal-is, step-on, constraints-kept, constraints-back}
use Rattle.live_to_safe.proofs.Valued.{positive-value, negative-value}
use Rattle.round_monitor.specs.declared.sizes.Sizes.{Sizes}
use Rattle.round_monitor.specs.Numbers.{sizes_of, seen, counter, seen_gate, counter_gate, greatest}
use Rattle.round_monitor.specs.Watching.{seen_latch, counter_latch, new_latches, new_gates}
use Rattle.round_monitor.specs.Monitor.{monitor_circuit, monitor_model}
use Rattle.round_monitor.specs.Ends.{IsMonitorable}
use Rattle.circuit.specs.RoundsAlong.{ends_with, seen_next, more_if, none_seen}
use Rattle.round_monitor.proofs.Numbering.{latch_vars, latches-length, gate_vars, gate_count, greatest-is}
use Rattle.round_monitor.proofs.Reading.{new_gates_read, new_latches_read}
use Rattle.round_monitor.proofs.Valued.{raised, seens-next, counters-next}

-- ---- counters after rounds

-- k counters after n rounds: those of the first n are true
abbrev pub tally : ℕ → ℕ → List Bool
tally n zero = []
tally zero (suc k) = false ∷ tally zero k
tally (suc n) (suc k) = true ∷ tally n k

pub tally-length : (n k : ℕ) → length (tally n k) ≡ k
tally-length n zero = refl
tally-length zero (suc k) = omega (arith, tally-length zero k)
tally-length (suc n) (suc k) = omega (arith, tally-length n k)

pub tally-zero : (k : ℕ) → tally 0 k ≡ replicate k false
tally-zero zero = refl
tally-zero (suc k) = ap (λ xs. false ∷ xs) (tally-zero k)

or_false : (x b : Bool) → (x || (b && false)) ≡ x
or_false true b = refl
or_false false true = refl
or_false false false = refl

raised-not : (before : Bool) (xs : List Bool) → raised false before xs ≡ xs
raised-not before [] = refl
raised-not before (x ∷ xs) = cons-same (x || (before && false)) x (raised false x xs) xs (or_false x before) (raised-not x xs)

raised-none : (k : ℕ) → raised true false (tally 0 k) ≡ tally 0 k
raised-none zero = refl
raised-none (suc k) = ap (λ xs. false ∷ xs) (raised-none k)

raised-one : (n k : ℕ) → raised true true (tally n k) ≡ tally (suc n) k
raised-one n zero = refl
raised-one zero (suc k) = ap (λ xs. true ∷ xs) (raised-none k)
raised-one (suc n) (suc k) = ap (λ xs. true ∷ xs) (raised-one n k)

raised-tally : (e : Bool) (n k : ℕ) → raised e true (tally n k) ≡ tally (more_if e n) k
raised-tally true n k = raised-one n k
raised-tally false n k = raised-not true (tally n k)

-- counter i is true exactly after more than i rounds
pub tally-true : (n k i : ℕ) → i < k → i < n → get_or (tally n k) i false ≡ true
tally-true n zero i inside less = absurd (omega (arith, inside))
tally-true zero (suc k) i inside less = absurd (omega (arith, less))
tally-true (suc n) (suc k) zero inside less = refl
tally-true (suc n) (suc k) (suc i) inside less = tally-true n k i (omega (arith, inside)) (omega (arith, less))

pub tally-told : (n k i : ℕ) → get_or (tally n k) i false ≡ true → i < n
tally-told n zero i e = absurd (false≢true e)
tally-told zero (suc k) zero e = absurd (false≢true e)
tally-told zero (suc k) (suc i) e = let a = tally-told zero k i e in absurd (omega (arith, a))
tally-told (suc n) (suc k) zero e = omega arith
tally-told (suc n) (suc k) (suc i) e = let a = tally-told n k i e in omega (arith, a)

-- what is seen, by values that agree on the literals
seen_agrees : (V W : List Bool) (literals : List ℕ) (seens : List Bool) → ((k d : ℕ) → k < length literals → literal_in V (get_or literals k d) ≡ literal_in W (get_or literals k d))
    → seen_with V literals seens ≡ seen_with W literals seens
seen_agrees V W [] seens each = refl
seen_agrees V W (l ∷ literals) [] each = refl
seen_agrees V W (l ∷ literals) (s ∷ seens) each =
    cons-same (s || literal_in V l) (s || literal_in W l) (seen_with V literals seens) (seen_with W literals seens) (ap (λ x. s || x) (each 0 0 (omega arith)))
    (seen_agrees V W literals seens (λ k d below. each (suc k) d (omega (arith, below))))

-- the values of the latches that watch
abbrev pub watch_state : List Bool → ℕ → ℕ → List Bool
watch_state seens n k = seens ++ tally n k

-- a position with what is watched at it
abbrev pub joint : Position → List Bool → ℕ → ℕ → Position
joint p seens n k = position_of (p.latches ++ watch_state seens n k) p.inputs

module _ (c : Circuit) (j k : ℕ) (checked : IsChecked c) (limits : IsWithinLimits c) (property : j < length c.justice) (some : 1 ≤ k) where
  abbrev z : Sizes
  z = sizes_of c j k

  abbrev t : Circuit
  t = monitor_circuit c j k

  abbrev literals : List ℕ
  literals = fair_literals c j

  abbrev added : ℕ
  added = (z.literals + z.counters) + gate_count z

  top-is : greatest z ≡ c.max + added
  top-is = greatest-is z

  vars : map (λ latch. latch.var) (new_latches z) ++ map (λ gate. gate.var) (new_gates z literals) ≡ range_with_len (c.max + 1) added
  vars =
      ap (λ xs. xs ++ map (λ gate. gate.var) (new_gates z literals)) (latch_vars z)
      ∙ ap (λ xs. range_with_len (c.max + 1) (z.literals + z.counters) ++ xs) (gate_vars z literals refl)
      ∙ range_append (c.max + 1) (z.literals + z.counters) (gate_count z)

  gates-read : All (ReadsBefore c.max c) (new_gates z literals)
  gates-read = new_gates_read z c literals some refl (fair_all (IsOwn c) c j property (own_read c checked limits))

  latches-read : All (λ latch. IsBefore c.max c (greatest z + 1) latch.next) (new_latches z)
  latches-read = new_latches_read z c

  no_more : c.inputs ≡ c.inputs ++ []
  no_more = sym (append-nil c.inputs)

  -- what the circuit gets more
  abbrev more : Extension c
  more = record {
    top = greatest z;
    n = added;
    inputs = [];
    all_inputs = c.inputs;
    latches = new_latches z;
    gates = new_gates z literals;
    inputs-are = no_more;
    top-is = top-is;
    vars = vars;
    gates-read = gates-read;
    latches-read = latches-read;
  }

  pub monitor-checked : IsChecked t
  monitor-checked = is-checked c checked limits more

  pub monitor-is_model : IsMonitorable c j k → IsModel (monitor_model c j k)
  monitor-is_model able =
      let size : greatest z ≤ MAX_VARIABLE = able.size in
      let room = has_room (monitor_model c j k) monitor-checked in
      let known = all-known c checked limits more in
      record {
        checked = monitor-checked;
        limits = record {
          max = size;
          literals = λ i d below. (known i d below).0;
          properties = All-nil _;
          inputs = omega (arith, room, size);
          latches = omega (arith, room, size);
          gates = omega (arith, room, size);
          constraints = limits.constraints;
          justice = omega arith;
          fairness = omega arith;
        };
        literals = All-nil _;
        defined = All-nil _;
        outputs = omega arith;
        bad = omega arith;
        symbols = All-nil _;
        comment = tt;
      }

  module _ (one : HasOneValuation c) (other : HasOneValuation t) (p : Position) (seens : List Bool) (n : ℕ) (is : IsPosition c p) (seens-fit : length seens ≡ length literals) where
    abbrev whole : Position
    whole = joint p seens n k

    abbrev V : List Bool
    V = valuation_at t whole

    abbrev value : ℕ → Bool
    value v = variable_in V v

    fit : length (watch_state seens n k) ≡ length (new_latches z)
    fit =
        let a = length-append seens (tally n k) in
        omega (arith, a, seens-fit, tally-length n k, latches-length z)

    no_given : p.inputs ≡ p.inputs ++ []
    no_given = sym (append-nil p.inputs)

    given : map (λ latch. value latch.var) (new_latches z) ≡ watch_state seens n k
    given = watch-given c checked limits more one other p (watch_state seens n k) [] p.inputs is fit refl no_given

    split-new : (numbered (λ m. value (seen z m)) 0 z.literals ≡ seens) × (numbered (λ i. value (counter z i)) 0 z.counters ≡ tally n k)
    split-new =
        let of_seens = map_numbered (λ latch. value latch.var) (seen_latch z) 0 z.literals in
        let of_counters = map_numbered (λ latch. value latch.var) (counter_latch z) 0 z.counters in
        split_same (numbered (λ m. value (seen z m)) 0 z.literals) seens (numbered (λ i. value (counter z i)) 0 z.counters) (tally n k)
        (numbered-length (λ m. value (seen z m)) 0 z.literals ∙ sym seens-fit)
        (ap (λ xs. xs ++ numbered (λ i. value (counter z i)) 0 z.counters) (sym of_seens)
        ∙ ap (λ xs. map (λ latch. value latch.var) (numbered (seen_latch z) 0 z.literals) ++ xs) (sym of_counters)
        ∙ sym (map-append (λ latch. value latch.var) (numbered (seen_latch z) 0 z.literals) (numbered (counter_latch z) 0 z.counters))
        ∙ given)

    meet : All (λ gate. value gate.var ≡ conjunction value gate) (new_gates z literals)
    meet = new-meet c checked limits more one other p (watch_state seens n k) [] p.inputs is fit refl no_given

    zero-value : value 0 ≡ false
    zero-value = zero-is c checked limits more one other p (watch_state seens n k) [] p.inputs is fit refl no_given

    own-literal : (i d : ℕ) → i < length literals → literal_in V (get_or literals i d) ≡ literal_in (valuation_at c p) (get_or literals i d)
    own-literal i d below =
        literal-is c checked limits more one other p (watch_state seens n k) [] p.inputs is fit refl no_given
        (get_or literals i d) (fair_all (IsOwn c) c j property (own_read c checked limits) i d below).0

    same-seen : seen_with V literals seens ≡ seen_with (valuation_at c p) literals seens
    same-seen = seen_agrees V (valuation_at c p) literals seens own-literal

    abbrev W : List Bool
    W = valuation_at c p

    same-ends : ends_with V literals seens ≡ ends_with W literals seens
    same-ends = ap (λ xs. list_all (λ b. b) xs) same-seen

    next-seens : map (λ latch. literal_at t whole latch.next) (numbered (seen_latch z) 0 z.literals) ≡ seen_next W literals seens
    next-seens =
        map_numbered (λ latch. literal_at t whole latch.next) (seen_latch z) 0 z.literals
        ∙ numbered_agrees (λ m. literal_by value (2 * seen_gate z m)) (λ m. value (seen_gate z m)) 0 z.literals (λ m. positive-value value (seen_gate z m))
        ∙ seens-next V zero-value z literals refl some meet
        ∙ ap (seen_next V literals) split-new.0
        ∙ ap (λ xs. cond (list_all (λ b. b) xs) (none_seen literals) xs) same-seen

    next-counters : map (λ latch. literal_at t whole latch.next) (numbered (counter_latch z) 0 z.counters) ≡ tally (more_if (ends_with W literals seens) n) k
    next-counters =
        map_numbered (λ latch. literal_at t whole latch.next) (counter_latch z) 0 z.counters
        ∙ numbered_agrees (λ i. literal_by value (2 * counter_gate z i + 1)) (λ i. not (value (counter_gate z i))) 0 z.counters (λ i. negative-value value (counter_gate z i))
        ∙ counters-next V zero-value z literals refl some meet
        ∙ ap (λ xs. raised (ends_with V literals xs) true (numbered (λ i. value (counter z i)) 0 z.counters)) split-new.0
        ∙ ap (raised (ends_with V literals seens) true) split-new.1
        ∙ ap (λ e. raised e true (tally n k)) same-ends
        ∙ raised-tally (ends_with W literals seens) n k

    pub next-is : successor t whole ≡ successor c p ++ watch_state (seen_next W literals seens) (more_if (ends_with W literals seens) n) k
    next-is =
        let next : Latch → Bool = λ latch. literal_at t whole latch.next in
        step-on c checked limits more one other p (watch_state seens n k) [] p.inputs is fit refl no_given
        ∙ ap (λ xs. successor c p ++ xs)
        (map-append next (numbered (seen_latch z) 0 z.literals) (numbered (counter_latch z) 0 z.counters)
        ∙ ap (λ xs. xs ++ map next (numbered (counter_latch z) 0 z.counters)) next-seens
        ∙ ap (λ xs. seen_next W literals seens ++ xs) next-counters)

    pub kept : MeetsConstraints c p → MeetsConstraints t whole
    kept = constraints-kept c checked limits more one other p (watch_state seens n k) [] p.inputs is fit refl no_given

    pub back : MeetsConstraints t whole → MeetsConstraints c p
    back = constraints-back c checked limits more one other p (watch_state seens n k) [] p.inputs is fit refl no_given
