-- An assignment of lasso clauses, from a fair lasso.
use Rattle.std.proofs.Common.{◌≡◌, ℕ, zero, suc, ◌+◌, ◌-◌, ◌*◌, ◌/◌, ◌<◌, ◌≤◌, ◌⊎◌, Bool, true, false, ◌&&◌, ◌||◌, eqb, leb, List, [], ◌∷◌, map, length, get_or, drop, refl, sym, ap, subst, ◌∙◌, inl, inr, IsTrue, arith, length-drop, get_or-drop}
use Rattle.std.specs.List.{Any, Contains}
use Rattle.std.proofs.lemmas.Bool.{and_parts, and_from, or_cases, or_left, or_right, cases_lt, eqb-true, eq-eqb, leb-true, le-leb}
use Rattle.std.proofs.lemmas.Nat.{div-mul-add}
use Rattle.std.proofs.lemmas.List.{get_or_default}
use Rattle.aig_semantics.specs.declared.traces.Position.{Position}
use Rattle.aig_semantics.specs.Literals.{variable_in}
use Rattle.aig_semantics.specs.Circuits.{Circuit, IsChecked, defined, fair_literals}
use Rattle.aig_semantics.specs.Valuations.{IsValuation, HasOneValuation}
use Rattle.aig_semantics.specs.Runs.{literal_at, valuation_at, successor, IsRun, IsInitial, IsInitialRun, IsFairLasso}
use Rattle.proof_semantics.specs.Clauses.{literal_value, clause_value, clauses_value}
use Rattle.fair_semantics.specs.declared.skeletons.Situation.{Situation}
use Rattle.fair_semantics.specs.Skeletons.{IsSituation}
use Rattle.cnf_unroll.specs.Numbers.{block_size, minus, literal_in_block, state_place, successor_place}
use Rattle.cnf_unroll.proofs.BlockReading.{each, map_same, map_map, latches_defined, read_in_range}
use Rattle.cnf_unroll.proofs.BlockWriting.{Shows, block_value, block_shown, block_true, shown_latches, literal_shown}
use Rattle.fair_semantics.proofs.Runs.{run-of}
use Rattle.lasso_clauses.specs.Moments.{begins, inside, closes, met, moment_size, moment_base, moment_before}
use Rattle.lasso_clauses.specs.Clauses.{loop_start, state_start, successor_start, state_clauses, inside_clause, seen_clause, positions_clauses}
use Rattle.lasso_clauses.proofs.States.{same_written, initial_written}
use Rattle.lasso_clauses.proofs.Holding.{implies, alone_is, undenied, Holds, IsMet, whole_holds, all_whole, all_positions}
use Rattle.lasso_clauses.proofs.Runs.{from_some, run_possible, run_linked}
use Rattle.lasso_clauses.proofs.Reading.{fair_read}

-- ---- numbers alone

split : (q d : ℕ) → (q < d) ⊎ (d ≤ q) → Bool → Bool → Bool
split q d (inl below) first rest = first
split q d (inr above) first rest = rest

split-below : (q d : ℕ) (x : (q < d) ⊎ (d ≤ q)) (first rest : Bool) → q < d → split q d x first rest ≡ first
unfolding split
split-below q d (inl below) first rest h = refl
split-below q d (inr above) first rest h = absurd (omega arith)

split-above : (q d : ℕ) (x : (q < d) ⊎ (d ≤ q)) (first rest : Bool) → d ≤ q → split q d x first rest ≡ rest
unfolding split
split-above q d (inl below) first rest h = absurd (omega arith)
split-above q d (inr above) first rest h = refl

shift : (a p q : ℕ) → a + p + 1 ≤ q → q - (a + 1) ≡ p + (q - (a + p + 1))
shift a p q low = omega arith

shift_below : (a p s q : ℕ) → a + p + 1 ≤ q → q ≤ a + p + s → q - (a + p + 1) < s
shift_below a p s q low high = omega arith

-- which moment a number belongs to
which : (a i s q : ℕ) → a + i * s + 1 ≤ q → q ≤ a + i * s + s → (q - (a + 1)) / s ≡ i
which a i s q low high = ap (λ x. x / s) (shift a (i * s) q low) ∙ div-mul-add i s (q - (a + i * s + 1)) (shift_below a (i * s) s q low high)

past : (a p q : ℕ) → a + p + 1 ≤ q → a + 1 ≤ q
past a p q low = omega arith

extra_low : (b s e q : ℕ) → q ≡ b + s + 1 + e → b + 1 ≤ q
extra_low b s e q is = omega arith

extra_high : (b s n e q : ℕ) → q ≡ b + s + 1 + e → e ≤ n + 2 → q ≤ b + (s + 3 + n)
extra_high b s n e q is few = omega arith

extra_past : (b s e q : ℕ) → q ≡ b + s + 1 + e → b + s + 1 ≤ q
extra_past b s e q is = omega arith

extra_gap : (b s e q : ℕ) → q ≡ b + s + 1 + e → q - (b + s + 1) ≡ e
extra_gap b s e q is = omega arith

block_high : (b s n q : ℕ) → q < b + s + 1 → q ≤ b + (s + 3 + n)
block_high b s n q high = omega arith

number_0 : (b s : ℕ) → b + s + 1 ≡ b + s + 1 + 0
number_0 b s = omega arith

number_1 : (b s : ℕ) → b + s + 2 ≡ b + s + 1 + 1
number_1 b s = omega arith

number_2 : (b s : ℕ) → b + s + 3 ≡ b + s + 1 + 2
number_2 b s = omega arith

number_3 : (b s m : ℕ) → b + s + 4 + m ≡ b + s + 1 + suc (suc (suc m))
number_3 b s m = omega arith

-- no position
nowhere : Position
nowhere = record { latches = []; inputs = [] }

first_initial : (c : Circuit) (run : List Position) (d : Position) → 0 < length run → IsInitialRun c run → IsInitial c (get_or run 0 d).latches
first_initial c [] d some h = absurd (omega arith)
first_initial c (p ∷ run) d some h = h.0

-- ---- the values

module _ (c : Circuit) (literals : List ℕ) (run : List Position) (from last : ℕ) where
  abbrev n : ℕ
  n = length literals

  abbrev at : ℕ → Position
  at i = get_or run i nowhere

  abbrev situation : ℕ → Situation
  situation i = record { position = get_or run i nowhere; successor = successor c (get_or run i nowhere) }

  abbrev true_at : ℕ → ℕ → Bool
  true_at m i = literal_at c (get_or run i nowhere) (get_or literals m 0)

  -- literal m was true in the loop, at position i or before it
  met_by : ℕ → ℕ → Bool
  met_by m zero = leb from 0 && true_at m 0
  met_by m (suc i) = (leb from (suc i) && true_at m (suc i)) || met_by m i

  behind : ℕ → ℕ → Bool
  behind i zero = eqb i from
  behind i (suc zero) = leb from i
  behind i (suc (suc zero)) = eqb i last
  behind i (suc (suc (suc m))) = met_by m i

  moment_value : ℕ → ℕ → Bool
  moment_value i q =
      split q (moment_base c (length literals) i + block_size c + 1) (cases_lt q (moment_base c (length literals) i + block_size c + 1))
      (block_value c (moment_base c (length literals) i) (record { position = get_or run i nowhere; successor = successor c (get_or run i nowhere) }) q)
      (behind i (q - (moment_base c (length literals) i + block_size c + 1)))

  pub value : ℕ → Bool
  value q =
      split q (c.max + 1 + 1) (cases_lt q (c.max + 1 + 1))
      (variable_in (valuation_at c (get_or run from nowhere)) (q - 1))
      (moment_value ((q - (c.max + 1 + 1)) / moment_size c (length literals)) q)

  value_loop : (u : ℕ) → u ≤ c.max → value (loop_start + u) ≡ variable_in (valuation_at c (at from)) u
  unfolding value
  value_loop u small =
      let low : 1 + u < c.max + 1 + 1 = omega arith in
      let back : 1 + u - 1 ≡ u = omega arith in
      split-below (1 + u) (c.max + 1 + 1) (cases_lt (1 + u) (c.max + 1 + 1)) (variable_in (valuation_at c (get_or run from nowhere)) (1 + u - 1)) (moment_value ((1 + u - (c.max + 1 + 1)) / moment_size c (length literals)) (1 + u)) low
      ∙ ap (λ k. variable_in (valuation_at c (get_or run from nowhere)) k) back

  value_moment : (i q : ℕ) → moment_base c n i + 1 ≤ q → q ≤ moment_base c n i + moment_size c n → value q ≡ moment_value i q
  unfolding value
  value_moment i q low high =
      split-above q (c.max + 1 + 1) (cases_lt q (c.max + 1 + 1)) (variable_in (valuation_at c (get_or run from nowhere)) (q - 1)) (moment_value ((q - (c.max + 1 + 1)) / moment_size c (length literals)) q)
      (past (c.max + 1) (i * moment_size c n) q low)
      ∙ ap (λ k. moment_value k q) (which (c.max + 1) i (moment_size c n) q low high)

  value_block : (i q : ℕ) → moment_base c n i + 1 ≤ q → q < moment_base c n i + block_size c + 1 → value q ≡ block_value c (moment_base c n i) (situation i) q
  unfolding moment_value
  value_block i q low high =
      value_moment i q low (block_high (moment_base c n i) (block_size c) n q high)
      ∙ split-below q (moment_base c n i + block_size c + 1) (cases_lt q (moment_base c n i + block_size c + 1)) (block_value c (moment_base c n i) (situation i) q) (behind i (q - (moment_base c n i + block_size c + 1))) high

  value_behind : (i e q : ℕ) → q ≡ moment_base c n i + block_size c + 1 + e → e ≤ n + 2 → value q ≡ behind i e
  unfolding moment_value
  value_behind i e q is few =
      value_moment i q (extra_low (moment_base c n i) (block_size c) e q is) (extra_high (moment_base c n i) (block_size c) n e q is few)
      ∙ split-above q (moment_base c n i + block_size c + 1) (cases_lt q (moment_base c n i + block_size c + 1)) (block_value c (moment_base c n i) (situation i) q) (behind i (q - (moment_base c n i + block_size c + 1))) (extra_past (moment_base c n i) (block_size c) e q is)
      ∙ ap (λ k. behind i k) (extra_gap (moment_base c n i) (block_size c) e q is)

  value_begins : (i : ℕ) → value (begins c (moment_base c n i)) ≡ eqb i from
  unfolding behind
  value_begins i = value_behind i 0 (begins c (moment_base c n i)) (number_0 (moment_base c n i) (block_size c)) (omega arith)

  value_inside : (i : ℕ) → value (inside c (moment_base c n i)) ≡ leb from i
  unfolding behind
  value_inside i = value_behind i 1 (inside c (moment_base c n i)) (number_1 (moment_base c n i) (block_size c)) (omega arith)

  value_closes : (i : ℕ) → value (closes c (moment_base c n i)) ≡ eqb i last
  unfolding behind
  value_closes i = value_behind i 2 (closes c (moment_base c n i)) (number_2 (moment_base c n i) (block_size c)) (omega arith)

  value_met : (i m : ℕ) → m < n → value (met c (moment_base c n i) m) ≡ met_by m i
  unfolding behind
  value_met i m below = value_behind i (suc (suc (suc m))) (met c (moment_base c n i) m) (number_3 (moment_base c n i) (block_size c) m) (omega arith)

  -- ---- what was met

  met_within : (m i : ℕ) → met_by m i ≡ true → leb from i ≡ true
  unfolding met_by
  met_within m zero t = (and_parts (leb from 0) (true_at m 0) t).0
  met_within m (suc i) t = elim (or_cases (leb from (suc i) && true_at m (suc i)) (met_by m i) t) [
    | inl here ↦ (and_parts (leb from (suc i)) (true_at m (suc i)) here).0
    | inr before ↦ let low = leb-true from i (met_within m i before) in le-leb from (suc i) (omega arith)
  ]

  met_from : (m i : ℕ) → from ≤ i → true_at m i ≡ true → (h : ℕ) → i ≤ h → met_by m h ≡ true
  unfolding met_by
  met_from m i low t zero early =
      let e : i ≡ 0 = omega arith in
      and_from _ _ (le-leb from 0 (omega arith)) (ap (true_at m) (sym e) ∙ t)
  met_from m i low t (suc h) early = elim (cases_lt i (suc h)) [
    | inl lt ↦ or_right (leb from (suc h) && true_at m (suc h)) (met_by m h) (met_from m i low t h (omega arith))
    | inr ge ↦
        let e : i ≡ suc h = omega arith in
        or_left (leb from (suc h) && true_at m (suc h)) (met_by m h) (and_from _ _ (le-leb from (suc h) (omega arith)) (ap (true_at m) (sym e) ∙ t))
  ]

module _ (c : Circuit) (checked : IsChecked c) (law : HasOneValuation c) (j : ℕ) (run : List Position) (from last : ℕ) (size : length run ≡ suc last) (lasso : IsFairLasso c j run from) where
  abbrev literals : List ℕ
  literals = fair_literals c j

  abbrev m : ℕ
  m = length (fair_literals c j)

  abbrev v : ℕ → Bool
  v q = value c (fair_literals c j) run from last q

  abbrev base : ℕ → ℕ
  base i = moment_base c (length (fair_literals c j)) i

  abbrev position : ℕ → Position
  position i = get_or run i nowhere

  abbrev here : ℕ → Situation
  here i = record { position = get_or run i nowhere; successor = successor c (get_or run i nowhere) }

  is_run : IsRun c run
  is_run = run-of c run lasso.initial

  from_early : from ≤ last
  from_early = let small = lasso.inside in omega arith

  is_here : (i : ℕ) → i ≤ last → IsSituation c (here i)
  is_here i early = record { possible = run_possible c run is_run i nowhere (omega arith); next = refl }

  shows : (i : ℕ) → i ≤ last → Shows c (base i) (here i) v
  shows i early = block_shown c checked (base i) (here i) (is_here i early) v (λ q low high. value_block c literals run from last i q low high)

  states : (i : ℕ) → i ≤ last → map v (state_place c (base i)) ≡ (position i).latches
  states i early = shown_latches c checked law (base i) (here i) (is_here i early) v (shows i early)

  successors : (i : ℕ) → i ≤ last → map v (successor_place c (base i)) ≡ successor c (position i)
  successors i early = (shows i early).next

  loop_state : map v (map (λ latch. loop_start + latch.var) c.latches) ≡ (position from).latches
  loop_state =
      let p : Position = position from in
      let is = is_here from from_early in
      let values : List Bool = valuation_at c p in
      let meets : IsValuation c p.latches p.inputs values = (law p.latches p.inputs values is.possible.position.latches is.possible.position.inputs).1 refl in
      map_map v (λ latch. loop_start + latch.var) c.latches
      ∙ (map_same (λ latch. v (loop_start + latch.var)) (λ latch. variable_in values latch.var) c.latches
      (each (λ latch. Contains (defined c) latch.var) (λ latch. v (loop_start + latch.var) ≡ variable_in values latch.var)
      (λ latch there. value_loop c literals run from last latch.var (read_in_range c checked latch.var (inr there))) c.latches (latches_defined c))
      ∙ meets.equations.given_latches)

  -- ---- the clauses of position i

  state_holds : (i : ℕ) → i ≤ last → clauses_value v (state_clauses c (moment_before c m i) (base i)) ≡ true
  state_holds zero early = initial_written v (state_start (base 0)) c.latches (subst (IsInitial c) (sym (states 0 early)) (first_initial c run nowhere (omega arith) lasso.initial))
  state_holds (suc i) early =
      same_written v [] (state_start (base (suc i))) (successor_start c (base i)) c.latches
      (λ e. states (suc i) early ∙ sym (run_linked c run is_run i nowhere (omega arith)) ∙ sym (successors i (omega arith)))

  begun_holds : (i : ℕ) → i ≤ last → clause_value v (minus (begins c (base i)) ∷ []) ≡ false → map v (state_place c (base i)) ≡ map v (map (λ latch. loop_start + latch.var) c.latches)
  begun_holds i early e =
      let at_from : i ≡ from = eqb-true i from (sym (value_begins c literals run from last i) ∙ undenied (v (begins c (base i))) e) in
      states i early ∙ ap (λ k. (position k).latches) at_from ∙ sym loop_state

  closing : successor c (position last) ≡ (position from).latches
  closing =
      let end : length run - 1 ≡ last = omega arith in
      let is_last = from_some run (length run - 1) lasso.closes.last nowhere lasso.closes.is_last in
      let is_first = from_some run from lasso.closes.first nowhere lasso.closes.is_first in
      ap (λ k. successor c (position k)) (sym end) ∙ ap (successor c) is_last ∙ lasso.closes.closes ∙ ap (λ p. p.latches) (sym is_first)

  closed_holds : (i : ℕ) → i ≤ last → clause_value v (minus (closes c (base i)) ∷ []) ≡ false → map v (successor_place c (base i)) ≡ map v (map (λ latch. loop_start + latch.var) c.latches)
  closed_holds i early e =
      let at_last : i ≡ last = eqb-true i last (sym (value_closes c literals run from last i) ∙ undenied (v (closes c (base i))) e) in
      successors i early ∙ ap (λ k. successor c (position k)) at_last ∙ closing ∙ sym loop_state

  within_holds : (i : ℕ) → i ≤ last → clause_value v (inside_clause c (moment_before c m i) (base i)) ≡ true
  within_holds zero early =
      implies (v (inside c (base 0))) (v (begins c (base 0)) || false)
      (λ t.
      let low = leb-true from 0 (sym (value_inside c literals run from last 0) ∙ t) in
      alone_is (v (begins c (base 0))) (value_begins c literals run from last 0 ∙ eq-eqb 0 from (omega arith)))
  within_holds (suc i) early =
      implies (v (inside c (base (suc i)))) (v (begins c (base (suc i))) || (v (inside c (base i)) || false))
      (λ t.
      let low = leb-true from (suc i) (sym (value_inside c literals run from last (suc i)) ∙ t) in
      elim (cases_lt from (suc i)) [
        | inl lt ↦ or_right (v (begins c (base (suc i)))) (v (inside c (base i)) || false) (alone_is (v (inside c (base i))) (value_inside c literals run from last i ∙ le-leb from i (omega arith)))
        | inr ge ↦ or_left (v (begins c (base (suc i)))) (v (inside c (base i)) || false) (value_begins c literals run from last (suc i) ∙ eq-eqb (suc i) from (omega arith))
      ])

  last_inside : (i : ℕ) → v (closes c (base i)) ≡ true → v (inside c (base i)) ≡ true
  last_inside i t =
      let at_last : i ≡ last = eqb-true i last (sym (value_closes c literals run from last i) ∙ t) in
      let low = from_early in
      value_inside c literals run from last i ∙ le-leb from i (omega arith)

  literal_here : (i x : ℕ) → i ≤ last → x < m → literal_value v (literal_in_block (base i) (get_or literals x 0)) ≡ true_at c literals run from last x i
  literal_here i x early below = literal_shown c checked law (base i) (here i) (is_here i early) v (shows i early) (get_or literals x 0) (fair_read c checked j x 0 below)

  seen_holds : (i x : ℕ) → i ≤ last → x < m → clause_value v (seen_clause c (moment_before c m i) (base i) x (get_or literals x 0)) ≡ true
  unfolding met_by
  seen_holds zero x early below =
      let a = literal_value v (literal_in_block (base 0) (get_or literals x 0)) in
      implies (v (met c (base 0) x)) (literal_value v (literal_in_block (base 0) (get_or literals x 0)) || false)
      (λ t.
      alone_is (literal_value v (literal_in_block (base 0) (get_or literals x 0)))
      (literal_here 0 x early below ∙ (and_parts (leb from 0) (true_at c literals run from last x 0) (sym (value_met c literals run from last 0 x below) ∙ t)).1))
  seen_holds (suc i) x early below =
      let a = literal_value v (literal_in_block (base (suc i)) (get_or literals x 0)) in
      implies (v (met c (base (suc i)) x)) (a || (v (met c (base i) x) || false))
      (λ t.
      elim (or_cases (leb from (suc i) && true_at c literals run from last x (suc i)) (met_by c literals run from last x i) (sym (value_met c literals run from last (suc i) x below) ∙ t)) [
        | inl now ↦ or_left a (v (met c (base i) x) || false) (literal_here (suc i) x early below ∙ (and_parts (leb from (suc i)) (true_at c literals run from last x (suc i)) now).1)
        | inr before ↦ or_right a (v (met c (base i) x) || false) (alone_is (v (met c (base i) x)) (value_met c literals run from last i x below ∙ before))
      ])

  all_seen : (x : ℕ) → x < m → met_by c literals run from last x last ≡ true
  all_seen x below =
      let found : Any (λ p. IsTrue (literal_at c p (get_or literals x 0))) (drop from run) = lasso.fair x 0 below in
      let place : ℕ = from + found.0 in
      let inside_run : from + found.0 < length run = omega (arith, found.2, length-drop from run) in
      let same : get_or run (from + found.0) nowhere ≡ found.1 = get_or_default run (from + found.0) nowhere found.1 inside_run ∙ sym (get_or-drop from run found.0 found.1) ∙ found.3 in
      met_from c literals run from last x (from + found.0) (omega arith) (ap (λ p. literal_at c p (get_or literals x 0)) same ∙ found.4) last (omega arith)

  is_met : (i : ℕ) → i ≤ last → (x : ℕ) → x < m → IsMet v c (moment_before c m i) (base i) x (get_or literals x 0)
  is_met i early x below = record {
    within = λ t. value_inside c literals run from last i ∙ met_within c literals run from last x i (sym (value_met c literals run from last i x below) ∙ t);
    seen = seen_holds i x early below;
    last =
        λ t.
        let at_last : i ≡ last = eqb-true i last (sym (value_closes c literals run from last i) ∙ t) in
        value_met c literals run from last i x below ∙ ap (λ k. met_by c literals run from last x k) at_last ∙ all_seen x below;
  }

  holds : (i : ℕ) → i ≤ last → Holds v c literals (moment_before c m i) (base i)
  holds i early = record {
    block = block_true c checked law (base i) (here i) (is_here i early) v (shows i early);
    state = state_holds i early;
    begun = same_written v (minus (begins c (base i)) ∷ []) (state_start (base i)) loop_start c.latches (begun_holds i early);
    within = within_holds i early;
    last = implies (v (closes c (base i))) (v (inside c (base i)) || false) (λ t. alone_is (v (inside c (base i))) (last_inside i t));
    closed = same_written v (minus (closes c (base i)) ∷ []) (successor_start c (base i)) loop_start c.latches (closed_holds i early);
    all =
        all_whole v c (moment_before c m i) (base i) 0 literals
        (λ x q e below. let same : x ≡ q = omega arith in subst (λ k. IsMet v c (moment_before c m i) (base i) k (get_or literals x 0)) same (is_met i early x below));
  }

  pub positions_true : clauses_value v (positions_clauses c literals (suc last)) ≡ true
  positions_true = all_positions v c literals (suc last) (λ i below. whole_holds v c literals (moment_before c m i) (base i) (holds i (omega arith)))

  pub last_true : v (closes c (base last)) ≡ true
  last_true = value_closes c literals run from last last ∙ eq-eqb last last refl

pub record IsWritten (c : Circuit) (j i : ℕ) : Type 0 where
  pub v : ℕ → Bool
  pub positions : clauses_value v (positions_clauses c (fair_literals c j) (suc i)) ≡ true
  pub last : v (closes c (moment_base c (length (fair_literals c j)) i)) ≡ true

pub written : (c : Circuit) → IsChecked c → HasOneValuation c → (j : ℕ) (run : List Position) (from last : ℕ) → length run ≡ suc last → IsFairLasso c j run from → IsWritten c j last
written c checked law j run from last size lasso = record {
  v = λ q. value c (fair_literals c j) run from last q;
  positions = positions_true c checked law j run from last size lasso;
  last = last_true c checked law j run from last size lasso;
}
