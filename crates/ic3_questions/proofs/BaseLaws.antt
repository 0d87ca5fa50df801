-- The clauses of the block under the entries, on the start's sides: they hold at the steps of the arena alone, and for
-- each such step there is an assignment, whatever the guards are.
use Rattle.std.proofs.Common.{◌≡◌, ℕ, suc, ◌+◌, ◌-◌, ◌<◌, ◌≤◌, ◌⊎◌, Bool, true, false, ◌&&◌, ◌||◌, List, [], ◌∷◌, ◌++◌, map, length, get_or, refl, sym, ap, ap₂, subst, ◌∙◌, inl, inr, add-zero, arith, length-append}
use Rattle.std.specs.List.{AllByRecursion, list_all}
use Rattle.std.proofs.lemmas.Bool.{and_parts, and_from, cases_lt}
use Rattle.aig_semantics.specs.declared.traces.Position.{Position}
use Rattle.aig_semantics.specs.Circuits.{Circuit, IsChecked}
use Rattle.aig_semantics.specs.Runs.{successor}
use Rattle.aig_semantics.specs.Valuations.{HasOneValuation}
use Rattle.proof_semantics.specs.declared.literals.Lit.{Lit}
use Rattle.proof_semantics.specs.Clauses.{literal_value, clauses_value}
use Rattle.fair_semantics.specs.declared.entries.Kind.{Kind}
use Rattle.fair_semantics.specs.declared.entries.Kind.TheVariants.{Reach, Wall}
use Rattle.fair_semantics.specs.declared.entries.Use.{Use}
use Rattle.fair_semantics.specs.declared.skeletons.Situation.{Situation}
use Rattle.fair_semantics.specs.Entries.{Entry, Numbered, used_entries, lies_on, sets_of, set_at, with_set, AreClosed}
use Rattle.fair_semantics.specs.Allowing.{all_allow, allow}
use Rattle.fair_semantics.specs.Skeletons.{IsSituation}
use Rattle.fair_semantics.specs.Laws.{StandAlone}
use Rattle.fair_semantics.proofs.Alone.{uses_stand_alone}
use Rattle.cnf_unroll.specs.Numbers.{block_size, state_place, successor_place, block_places, set_at_place}
use Rattle.cnf_unroll.specs.Blocks.{step_clauses}
use Rattle.cnf_unroll.specs.Uses.{Numbering, free_from, named_sides, uses_clauses, after_use, after_uses}
use Rattle.cnf_unroll.specs.Obligations.{units, step_with_uses, after_step}
use Rattle.cnf_unroll.specs.Situations.{situation_in}
use Rattle.cnf_unroll.specs.Laws.{NameKnown, walls_among, AreReadable}
use Rattle.cnf_unroll.proofs.Truth.{both, together}
use Rattle.cnf_unroll.proofs.Walls.{HasFrom, marks_over, after_marks-is}
use Rattle.cnf_unroll.proofs.UseLaws.{states_at, names_here, read_uses}
use Rattle.cnf_unroll.proofs.UseWriting.{uses_values, write_uses, nothing}
use Rattle.cnf_unroll.proofs.BlockReading.{block_read}
use Rattle.cnf_unroll.proofs.BlockWriting.{Shows, block_value, block_shown, block_true, shown_latches}
use Rattle.cnf_unroll.proofs.ObligationLaws.{state_length, successor_length}
use Rattle.entry.specs.Laws.{IsGoodList}
use Rattle.entry.proofs.Readable.{uses_readable, own_named}
use Rattle.ic3_semantics.specs.declared.questions.Start.{Start}
use Rattle.ic3_semantics.specs.Arenas.{restricting, in_arena}
use Rattle.ic3_semantics.specs.Searching.{Question}
use Rattle.ic3_semantics.specs.Stepping.{IsArenaStep}
use Rattle.ic3_questions.specs.SteppingClauses.{own_uses, base_clauses, first_guard}
use Rattle.ic3_questions.proofs.Sides.{sides_are_arena, own_uses_are, own_closed}

-- ---- units

or_false : (a : Bool) → (a || false) ≡ a
or_false true = refl
or_false false = refl

units_value : (v : ℕ → Bool) (names : List Lit) → clauses_value v (units names) ≡ list_all (literal_value v) names
units_value v [] = refl
units_value v (name ∷ names) =
    ap (λ x. x && clauses_value v (units names)) (or_false (literal_value v name))
    ∙ ap (λ y. literal_value v name && y) (units_value v names)

-- ---- an assignment that goes on from a number on

goes_on : (ℕ → Bool) → (d : ℕ) → (ℕ → Bool) → (n : ℕ) → (n < d) ⊎ (d ≤ n) → Bool
goes_on v d more n (inl below) = v n
goes_on v d more n (inr above) = more (n - d)

-- v below d, and the other values from d on
beyond : (ℕ → Bool) → ℕ → (ℕ → Bool) → ℕ → Bool
beyond v d more n = goes_on v d more n (cases_lt n d)

goes_on-below : (v : ℕ → Bool) (d : ℕ) (more : ℕ → Bool) (n : ℕ) (x : (n < d) ⊎ (d ≤ n)) → n < d → goes_on v d more n x ≡ v n
unfolding goes_on
goes_on-below v d more n (inl below) h = refl
goes_on-below v d more n (inr above) h = absurd (omega arith)

goes_on-above : (v : ℕ → Bool) (d : ℕ) (more : ℕ → Bool) (i : ℕ) (x : (d + i < d) ⊎ (d ≤ d + i)) → goes_on v d more (d + i) x ≡ more i
unfolding goes_on
goes_on-above v d more i (inl below) = absurd (omega arith)
goes_on-above v d more i (inr above) = let e : d + i - d ≡ i = omega arith in ap more e

beyond-below : (v : ℕ → Bool) (d : ℕ) (more : ℕ → Bool) (n : ℕ) → n < d → beyond v d more n ≡ v n
unfolding beyond
beyond-below v d more n h = goes_on-below v d more n (cases_lt n d) h

beyond-above : (v : ℕ → Bool) (d : ℕ) (more : ℕ → Bool) (i : ℕ) → beyond v d more (d + i) ≡ more i
unfolding beyond
beyond-above v d more i = goes_on-above v d more i (cases_lt (d + i) d)

has_from : (w : ℕ → Bool) (d : ℕ) (bs : List Bool) → ((i : ℕ) → i < length bs → w (d + i) ≡ get_or bs i false) → HasFrom w d bs
has_from w d [] h = tt
has_from w d (b ∷ bs) h = (
  sym (ap w (add-zero d)) ∙ h 0 (omega arith),
  has_from w (d + 1) bs (λ i below. let e : d + 1 + i ≡ d + suc i = omega arith in ap w e ∙ h (suc i) (omega arith)),
)

-- ---- how many numbers the uses take

abbrev State : Type 0
State = List Bool

use_reaches : (v : ℕ → Bool) (sets : ℕ → State → Bool) (n : Numbering) (u : Numbered) (us : List Numbered) (kind : Kind) (places : List (List ℕ))
    → u.entry.kind ≡ kind
    → n.free + length (uses_values sets (u ∷ us) (states_at v places))
    ≡ (after_use places n u kind).free + length (uses_values (with_set sets u) us (states_at v places))
use_reaches v sets n u us Reach places is =
    rw is refl
use_reaches v sets n u us Wall places is =
    let e = after_marks-is v u.entry.clauses (n.free + 1) places in
    let rest = uses_values (with_set sets u) us (states_at v places) in
    let marks = marks_over u.entry.clauses (states_at v places) in
    rw is (omega (arith, e, length-append marks rest))

uses_reach : (v : ℕ → Bool) (sets : ℕ → State → Bool) (n : Numbering) (us : List Numbered) (places : List (List ℕ))
    → (after_uses places n us).free ≡ n.free + length (uses_values sets us (states_at v places))
uses_reach v sets n [] places = sym (add-zero n.free)
uses_reach v sets n (u ∷ us) places =
    uses_reach v (with_set sets u) (after_use places n u u.entry.kind) us places
    ∙ sym (use_reaches v sets n u us u.entry.kind places refl)

-- ---- the laws

module _ (c : Circuit) (checked : IsChecked c) (law : HasOneValuation c) (view : List Entry) (good : IsGoodList c view) (start : Start) where
  abbrev q : Question
  q = record { circuit = c; view = view; start = start }

  abbrev us : List Numbered
  us = restricting start view

  abbrev own : List Use
  own = own_uses view start

  closed : AreClosed view own
  closed = own_closed c view start good.valid

  readable : AreReadable (length c.latches) [] [] us
  readable = subst (AreReadable (length c.latches) [] []) (own_uses_are view start) (uses_readable c view own good closed)

  named : NameKnown (walls_among [] us) own
  named = subst (λ xs. NameKnown (walls_among [] xs) own) (own_uses_are view start) (own_named view own closed)

  alone : StandAlone view own
  alone = uses_stand_alone view own closed

  abbrev allows_on : List Numbered → State → State → Bool
  allows_on xs s t = allow xs (s ∷ t ∷ []) && list_all (λ u. lies_on u.side (sets_of xs u.entry s)) own

  arena_is : (s t : State) → allows_on us s t ≡ (in_arena view start s && in_arena view start t)
  arena_is s t =
      let sides : Bool = list_all (λ u. lies_on u.side (set_at view u.entry s)) own in
      let others : List Numbered = used_entries view own in
      ap (λ xs. allows_on xs s t) (sym (own_uses_are view start))
      ∙ ap₂ (λ a b. a && b) (alone.allowed (s ∷ t ∷ [])) (alone.entry (record { kind = Wall; clauses = []; uses = own }) refl s)
      ∙ ap (λ xs. all_allow (set_at view) xs (s ∷ t ∷ []) && sides) (own_uses_are view start)
      ∙ sides_are_arena view start s t

  long : AllByRecursion (λ p. length p ≡ length c.latches) (block_places c 0)
  long = (state_length c 0, (successor_length c 0, tt))

  abbrev names : List Lit
  names = named_sides (after_step c us).sides own

  abbrev behind_block : List (List Lit)
  behind_block = uses_clauses (block_places c 0) (free_from (block_size c + 1)) us

  -- what an assignment of the clauses tells
  pub record IsRead (v : ℕ → Bool) : Type 0 where
    pub step : IsArenaStep q (situation_in c 0 v).position
    pub next : map v (successor_place c 0) ≡ successor c (situation_in c 0 v).position
    pub block : clauses_value v (step_clauses c) ≡ true

  pub base_read : (v : ℕ → Bool) → clauses_value v (base_clauses q) ≡ true → IsRead v
  base_read v h =
      let here : State = map v (state_place c 0) in
      let there : State = map v (successor_place c 0) in
      let set = both v (step_with_uses c us ++ units names) (set_at_place (state_place c 0) []) h in
      let sides = both v (step_with_uses c us) (units names) set.0 in
      let step = both v (step_clauses c) behind_block sides.0 in
      let situation = block_read c checked law 0 v step.0 in
      let read = read_uses v (length c.latches) (λ n s. false) (free_from (block_size c + 1)) [] [] (block_places c 0) us readable long (nothing v (block_places c 0)) step.1 in
      let kept = names_here v (sets_of us) (after_step c us).sides read.more (walls_among [] us) (block_places c 0) read.agrees own named in
      let inside : list_all (λ u. lies_on u.side (sets_of us u.entry here)) own ≡ true = sym kept.0 ∙ (sym (units_value v names) ∙ sides.1) in
      let arena = and_parts (in_arena view start here) (in_arena view start there) (sym (arena_is here there) ∙ and_from _ _ read.allowed inside) in
      record {
        step = record {
          possible = situation.possible;
          state = arena.0;
          next = ap (in_arena view start) (sym situation.next) ∙ arena.1;
        };
        next = situation.next;
        block = step.0;
      }

  abbrev situation_of : Position → Situation
  situation_of p = record { position = p; successor = successor c p }

  -- an assignment for a step, with these guards
  pub record IsWritten (p : Position) (guards : ℕ → Bool) : Type 0 where
    pub value : ℕ → Bool
    pub base : clauses_value value (base_clauses q) ≡ true
    pub shows : Shows c 0 (situation_of p) value
    pub here : map value (state_place c 0) ≡ p.latches
    pub next : map value (successor_place c 0) ≡ successor c p
    pub guard : (i : ℕ) → value (first_guard q + i) ≡ guards i

  pub base_written : (p : Position) (guards : ℕ → Bool) → IsArenaStep q p → IsWritten p guards
  base_written p guards step =
      let none : ℕ → State → Bool = λ n s. false in
      let free = block_size c + 1 in
      let to : State = successor c p in
      let bs : List Bool = uses_values none us (p.latches ∷ to ∷ []) in
      let block : ℕ → Bool = block_value c 0 (situation_of p) in
      let inner : ℕ → Bool = beyond block (block_size c + 1) (λ i. get_or bs i false) in
      let end : ℕ = block_size c + 1 + length bs in
      let v : ℕ → Bool = beyond inner (block_size c + 1 + length bs) guards in
      let low : (n : ℕ) → n < block_size c + 1 → v n ≡ block n =
      λ n lt. beyond-below inner end guards n (omega arith) ∙ beyond-below block (block_size c + 1) (λ i. get_or bs i false) n lt
      in
      let is : IsSituation c (situation_of p) = record { possible = step.possible; next = refl } in
      let shows : Shows c 0 (situation_of p) v = block_shown c checked 0 (situation_of p) is v (λ n above below. low n (omega arith)) in
      let here : map v (state_place c 0) ≡ p.latches = shown_latches c checked law 0 (situation_of p) is v shows in
      let next : map v (successor_place c 0) ≡ to = shows.next in
      let states : states_at v (block_places c 0) ≡ p.latches ∷ to ∷ [] = ap₂ (λ (s t : State). s ∷ t ∷ []) here next in
      let has : HasFrom v (block_size c + 1) bs =
      has_from v (block_size c + 1) bs
      (λ i lt. beyond-below inner end guards (block_size c + 1 + i) (omega arith) ∙ beyond-above block (block_size c + 1) (λ k. get_or bs k false) i)
      in
      let reach : first_guard q ≡ end =
      uses_reach v none (free_from (block_size c + 1)) us (block_places c 0)
      ∙ ap (λ ss. block_size c + 1 + length (uses_values none us ss)) states
      in
      let arena = and_parts (allow us (p.latches ∷ to ∷ [])) (list_all (λ u. lies_on u.side (sets_of us u.entry p.latches)) own)
      (arena_is p.latches to ∙ and_from _ _ step.state step.next) in
      let w = write_uses v (length c.latches) none (free_from (block_size c + 1)) [] [] (state_place c 0) (successor_place c 0 ∷ []) us readable long (nothing v (block_places c 0))
      (ap (λ ss. allow us ss) states ∙ arena.0)
      (subst (λ ss. HasFrom v (block_size c + 1) (uses_values none us ss)) (sym states) has) in
      let kept = names_here v (sets_of us) (after_step c us).sides w.more (walls_among [] us) (block_places c 0) w.agrees own named in
      record {
        value = v;
        base =
            together v (step_with_uses c us ++ units names) (set_at_place (state_place c 0) [])
            (together v (step_with_uses c us) (units names)
            (together v (step_clauses c) behind_block (block_true c checked law 0 (situation_of p) is v shows) w.holds)
            (units_value v names ∙ (kept.0 ∙ (ap (λ s. list_all (λ u. lies_on u.side (sets_of us u.entry s)) own) here ∙ arena.1))))
            refl;
        shows = shows;
        here = here;
        next = next;
        guard = λ i. ap (λ n. v (n + i)) reach ∙ beyond-above inner end guards i;
      }
