-- Entries that hold every state of every run, and a refutation of the states in which the last latch is true: no run comes to
-- such a state.
use Rattle.std.proofs.Common.{◌≡◌, ℕ, zero, suc, ◌+◌, ◌-◌, ◌<◌, Bool, true, false, ◌&&◌, ◌||◌, List, [], ◌∷◌, ◌++◌, map, length, take, get_or, refl, sym, ap, ◌∙◌, subst, arith, append_assoc, append-nil, Some}
use Rattle.std.specs.Prelude.{unwrap_or}
use Rattle.std.specs.List.{All, list_all, flat_map}
use Rattle.std.proofs.lemmas.Bool.{and_parts, and_from, or_left, false≢true, true≢false}
use Rattle.std.proofs.lemmas.Option.{slice_get_within, get_or_from_slice_get, unwrap_or-slice_get}
use Rattle.std.proofs.lemmas.List.{length-map, get_or-map, ext_get_or}
use Rattle.std.proofs.lemmas.List.Elements.{All-nil, All-cons, All-head, All-tail, All-map}
use Rattle.aig_semantics.specs.declared.parts.Latch.{Latch}
use Rattle.aig_semantics.specs.declared.parts.Reset.TheVariants.{Zero}
use Rattle.aig_semantics.specs.declared.traces.Position.{Position}
use Rattle.aig_semantics.specs.Circuits.{Circuit, IsChecked}
use Rattle.aig_semantics.specs.Runs.{literal_at, successor}
use Rattle.aig_semantics.specs.Valuations.{value_beside}
use Rattle.aig_semantics.proofs.Lists.{AllDiffer, AllDiffer-left, AllDiffer-right, value_beside-at}
use Rattle.proof_semantics.specs.declared.literals.Lit.{Lit}
use Rattle.proof_semantics.specs.Clauses.{bool_eq, literal_value, clause_value, clauses_value, values_of}
use Rattle.proof_semantics.proofs.Soundness.{refuted-unsatisfiable}
use Rattle.fair_semantics.specs.declared.entries.Kind.TheVariants.{Reach}
use Rattle.fair_semantics.specs.declared.entries.Use.{Use}
use Rattle.fair_semantics.specs.States.{meets_clauses}
use Rattle.fair_semantics.specs.Entries.{Entry, entry_at, numbered, used_entries, sets_of}
use Rattle.fair_semantics.proofs.Certified.{bool_eq-same, reach_holds_runs}
use Rattle.fair_semantics.proofs.Sets.{nothing, sets_of-entry}
use Rattle.cnf_unroll.specs.Numbers.{number, state_place, clause_at_place, set_at_place}
use Rattle.cnf_unroll.specs.Laws.{AreOver}
use Rattle.cnf_unroll.proofs.ObligationLaws.{state_length, over_there}
use Rattle.cnf_unroll.proofs.Truth.{flat_true, together, clause_there, set_there}
use Rattle.entry.specs.declared.entries.Entry.{Entry as WithProofs}
use Rattle.entry.specs.declared.refutations.Refutation.{Refutation}
use Rattle.entry.specs.Entries.{said}
use Rattle.entry.specs.Laws.{IsGoodList, GoodListsGrow}
use Rattle.round_monitor.specs.Counting.{IsFullRun, HasFullRun}
use Rattle.certificate.specs.Refuted.{state_clauses, IsStateRefutation}
use Rattle.round_answers.specs.Answers.{last_latch}
use Rattle.round_answers.specs.Writing.{AreProvedInOrder, AreFull}
use Rattle.round_answers.specs.Laws.{RefutesFullRuns}

-- ---- entries that are proved in order are a good list

proved_good : (t : Circuit) → GoodListsGrow t → (before : List Entry) (es : List WithProofs) → IsGoodList t before → AreProvedInOrder t before es
    → IsGoodList t (before ++ map said es)
proved_good t grow before [] good proved = subst (IsGoodList t) (sym (append-nil before)) good
proved_good t grow before (e ∷ es) good (first, others) =
    subst (IsGoodList t) (append_assoc before (said e ∷ []) (map said es))
    (proved_good t grow (before ++ said e ∷ []) es (grow.more before (said e) e.proofs good first) others)

-- ---- the numbers of the first block's state get the values of a state

no_latch : Latch
no_latch = record { var = 0; next = 0; reset = Zero }

there : (s : List Bool) (n : ℕ) → get_or s n false ≡ true → n < length s
there [] n h = absurd (false≢true h)
there (b ∷ s) zero h = omega arith
there (b ∷ s) (suc n) h = let below = there s n h in omega (arith, below)

one_less : (p q x : ℕ) → p ≡ 0 + 1 + x → q ≡ x → p - 1 ≡ q
one_less p q x a b = omega (arith, a, b)

module _ (t : Circuit) (checked : IsChecked t) (s : List Bool) (size : length s ≡ length t.latches) where
  abbrev vars : List ℕ
  vars = map (λ (latch : Latch). latch.var) t.latches

  abbrev place : List ℕ
  place = state_place t 0

  vars_differ : AllDiffer vars
  vars_differ = AllDiffer-right t.inputs vars (AllDiffer-left (t.inputs ++ vars) (map (λ gate. gate.var) t.gates) checked.once)

  abbrev value : ℕ → Bool
  value n = unwrap_or (value_beside vars s (n - 1)) false

  vars_many : length vars ≡ length t.latches
  vars_many = length-map t.latches (λ (latch : Latch). latch.var)

  value_at : (k : ℕ) → k < length t.latches → get_or (map value place) k false ≡ get_or s k false
  value_at k below =
      let many : length place ≡ length t.latches = state_length t 0 in
      let here : get_or place k 0 ≡ 0 + 1 + (get_or t.latches k no_latch).var = get_or-map (λ (latch : Latch). number 0 latch.var) t.latches k no_latch 0 below in
      let variable : get_or vars k 0 ≡ (get_or t.latches k no_latch).var = get_or-map (λ (latch : Latch). latch.var) t.latches k no_latch 0 below in
      get_or-map value place k 0 false (omega (arith, below, many))
      ∙ ap (λ n. unwrap_or (value_beside vars s n) false) (one_less (get_or place k 0) (get_or vars k 0) (get_or t.latches k no_latch).var here variable)
      ∙ ap (λ o. unwrap_or o false) (value_beside-at vars s k vars_differ (vars_many ∙ sym size) (omega (arith, below, vars_many)))

  same_state : map value place ≡ s
  same_state =
      let many : length place ≡ length t.latches = state_length t 0 in
      let count : length (map value place) ≡ length place = length-map place value in
      ext_get_or false (map value place) s (omega (arith, many, count, size)) (λ k below. value_at k (omega (arith, below, many, count)))

  -- an entry that holds the state
  set_true : (clauses : List (List Lit)) → AreOver (length t.latches) clauses → meets_clauses clauses s ≡ true
      → clauses_value value (set_at_place place clauses) ≡ true
  set_true clauses over meets =
      set_there value place clauses (over_there (length place) (length t.latches) clauses (state_length t 0) over)
      ∙ ap (λ x. clauses_value (values_of x) clauses) same_state ∙ meets

  -- a literal that the state has
  literal_true : (n : ℕ) → get_or s n false ≡ true → clause_value value (clause_at_place place (record { var = n; positive = true } ∷ [])) ≡ true
  literal_true n h =
      let l : Lit = record { var = n; positive = true } in
      let many : length place ≡ length t.latches = state_length t 0 in
      let below : n < length place = let inside = there s n h in omega (arith, inside, many, size) in
      let here : literal_value (values_of s) l ≡ true = bool_eq-same true (values_of s n) (unwrap_or-slice_get s n false ∙ h) in
      clause_there value place (l ∷ []) (All-cons (λ x. x.var < length place) l [] below (All-nil (λ x. x.var < length place)))
      ∙ ap (λ x. clause_value (values_of x) (l ∷ [])) same_state ∙ or_left (literal_value (values_of s) l) false here

  -- used entries that hold the state
  used_true : (entries : List Entry) (uses : List Use) → All (λ u. u.entry < length entries) uses
      → ((n : ℕ) → n < length entries → clauses_value value (set_at_place place (entry_at entries n).clauses) ≡ true)
      → list_all (λ u. clauses_value value (set_at_place place u.entry.clauses)) (used_entries entries uses) ≡ true
  used_true entries [] present each = refl
  used_true entries (u ∷ uses) present each =
      let P : Use → Type 0 = λ v. v.entry < length entries in
      and_from _ _ (each u.entry (All-head P u uses present)) (used_true entries uses (All-tail P u uses present) each)

  all_true : (entries : List Entry) (uses : List Use) (n : ℕ) → All (λ u. u.entry < length entries) uses
      → ((n : ℕ) → n < length entries → clauses_value value (set_at_place place (entry_at entries n).clauses) ≡ true) → get_or s n false ≡ true
      → clauses_value value (state_clauses t (record { var = n; positive = true }) (used_entries entries uses)) ≡ true
  all_true entries uses n present each h =
      let l : Lit = record { var = n; positive = true } in
      let sets : List (List Lit) = flat_map (λ u. set_at_place place u.entry.clauses) (used_entries entries uses) in
      together value sets (clause_at_place place (l ∷ []) ∷ [])
      (flat_true value (λ u. set_at_place place u.entry.clauses) (used_entries entries uses) ∙ used_true entries uses present each)
      (and_from _ _ (literal_true n h) refl)

-- ---- the last state of a run is held by each reach entry

module _ (t : Circuit) (entries : List Entry) (good : IsGoodList t entries) (reach : All (λ e. e.kind ≡ Reach) entries) (run : List Position) (full : IsFullRun t run) where
  abbrev last_state : List Bool
  last_state = successor t full.last

  held : (n : ℕ) → n < length entries → meets_clauses (entry_at entries n).clauses last_state ≡ true
  held n below =
      let i : ℕ = length run - 1 in
      let inside : i < length run = slice_get_within run i full.last full.is_last in
      let same : get_or run i full.last ≡ full.last = get_or_from_slice_get run i full.last full.last full.is_last in
      let lies = reach_holds_runs t entries n run good.valid below (reach n nothing below) full.initial in
      let in_set : sets_of (numbered entries) n last_state ≡ true =
      subst (λ (p : Position). sets_of (numbered entries) n (successor t p) ≡ true) same (lies i full.last inside).1 in
      (and_parts (meets_clauses (entry_at entries n).clauses last_state) _ (sym (sets_of-entry entries n last_state below) ∙ in_set)).0

pub no_full_run : (t : Circuit) → IsChecked t → (entries : List Entry) → IsGoodList t entries → All (λ e. e.kind ≡ Reach) entries → (uses : List Use) (proof : List (List ℕ))
    → IsStateRefutation t (last_latch t) entries uses proof → HasFullRun t → ⊥
no_full_run t checked entries good reach uses proof h (run, full) =
    let s : List Bool = successor t full.last in
    let size : length s ≡ length t.latches = length-map t.latches (λ (latch : Latch). literal_at t full.last latch.next) in
    let each : (n : ℕ) → n < length entries → clauses_value (value t checked s size) (set_at_place (state_place t 0) (entry_at entries n).clauses) ≡ true =
    λ n below. set_true t checked s size (entry_at entries n).clauses (good.over n nothing below) (held t entries good reach run full n below) in
    let model = all_true t checked s size entries uses (length t.latches - 1) h.closed.present each full.full in
    true≢false (sym model ∙ refuted-unsatisfiable (state_clauses t (last_latch t) (used_entries entries uses)) proof h.refutes (value t checked s size))

pub refutes_full_runs : (t : Circuit) → IsChecked t → GoodListsGrow t → RefutesFullRuns t
refutes_full_runs t checked grow es refutation h full =
    no_full_run t checked (map said es) (proved_good t grow [] es grow.none h.proved) (All-map (λ (e : Entry). e.kind ≡ Reach) said es h.reach)
    refutation.uses refutation.proof h.refuted full
