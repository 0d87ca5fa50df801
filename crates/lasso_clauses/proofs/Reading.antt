-- The fair lasso that an assignment gives which makes the clauses of positions true, and the last of them the last one.
use Rattle.std.proofs.Common.{◌≡◌, ℕ, zero, suc, ◌+◌, ◌-◌, ◌<◌, ◌≤◌, Bool, true, false, ◌||◌, List, [], ◌∷◌, ◌++◌, map, length, get_or, drop, take, refl, sym, ap, subst, ◌∙◌, inl, inr, Some, slice_get, IsTrue, arith, length-drop, get_or-drop, take_all}
use Rattle.std.specs.List.{All, Any, flat_map}
use Rattle.std.proofs.lemmas.Bool.{or_cases}
use Rattle.std.proofs.lemmas.List.{map-append, length-map}
use Rattle.std.proofs.lemmas.List.Elements.{All-append, All-map}
use Rattle.aig_semantics.specs.declared.traces.Position.{Position}
use Rattle.aig_semantics.specs.Literals.{variable_of}
use Rattle.aig_semantics.specs.Circuits.{Circuit, IsChecked, fair_literals}
use Rattle.aig_semantics.specs.Runs.{literal_at, successor, MeetsConstraints, StartsIn, IsRun, IsInitial, IsInitialRun, IsFairLasso}
use Rattle.aig_semantics.specs.Stimuli.{simulated, HasLasso}
use Rattle.aig_semantics.proofs.Lists.{All-left, All-right}
use Rattle.aig_semantics.specs.Valuations.{HasOneValuation}
use Rattle.proof_semantics.specs.Clauses.{literal_value, clauses_value}
use Rattle.fair_semantics.specs.Skeletons.{IsSituation}
use Rattle.cnf_unroll.specs.Numbers.{minus, literal_in_block, state_place}
use Rattle.cnf_unroll.specs.Situations.{situation_in}
use Rattle.cnf_unroll.proofs.BlockReading.{IsRead, nexts, sides_of, of_justice, block_read, literal_is}
use Rattle.circuit.proofs.Following.{simulated-inputs}
use Rattle.lasso_clauses.specs.Moments.{begins, inside, closes, met, moment_base, moment_before}
use Rattle.lasso_clauses.specs.Clauses.{loop_start, state_start, successor_start, positions_clauses}
use Rattle.lasso_clauses.specs.Laws.{inputs_in, stimulus_in}
use Rattle.lasso_clauses.proofs.States.{same_read, initial_read}
use Rattle.lasso_clauses.proofs.Holding.{implied, alone, denied, Holds, IsMet, parts_hold, all_parts, at_position}
use Rattle.lasso_clauses.proofs.Runs.{upto, length-upto, get_or-upto, get_some, IsFirst, first, first_least, run_from, initial_from, starts_at}

-- ---- the literals that are asked for are read

property_read : (P : ℕ → Type 0) (justice : List (List ℕ)) (j : ℕ) → All P (flat_map (λ property. property) justice) → All P (get_or justice j [])
property_read P [] j h = λ k d below. absurd (omega arith)
property_read P (property ∷ justice) zero h = All-left P property (flat_map (λ x. x) justice) h
property_read P (property ∷ justice) (suc j) h = property_read P justice j (All-right P property (flat_map (λ x. x) justice) h)

pub fair_read : (c : Circuit) → IsChecked c → (j : ℕ) → All (λ l. IsRead c (variable_of l)) (fair_literals c j)
fair_read c checked j =
    let P = λ (l : ℕ). IsRead c (variable_of l) in
    let before = nexts c ++ sides_of c ++ c.constraints in
    All-append P (get_or c.justice j []) c.fairness
    (property_read P c.justice j (All-right P before (of_justice c) (All-left P (before ++ of_justice c) c.fairness checked.used_defined)))
    (All-right P (before ++ of_justice c) c.fairness checked.used_defined)

-- what an assignment gives position i
abbrev pub position_at : Circuit → ℕ → (ℕ → Bool) → ℕ → Position
position_at c n v i = (situation_in c (moment_base c n i) v).position

inputs_are : (c : Circuit) (n : ℕ) (v : ℕ → Bool) (k : ℕ) → inputs_in c n v k ≡ map (λ p. p.inputs) (upto (position_at c n v) k)
unfolding upto
inputs_are c n v zero = refl
inputs_are c n v (suc k) =
    ap (λ xs. xs ++ (position_at c n v k).inputs ∷ []) (inputs_are c n v k)
    ∙ sym (map-append (λ p. p.inputs) (upto (position_at c n v) k) (position_at c n v k ∷ []))

-- a position behind a begin
record IsEntered (c : Circuit) (n : ℕ) (v : ℕ → Bool) (i : ℕ) : Type 0 where
  place : ℕ
  early : place ≤ i
  begun : v (begins c (moment_base c n place)) ≡ true

-- a literal that is true at a position of the loop, i or an earlier one
record IsSeen (c : Circuit) (n : ℕ) (v : ℕ → Bool) (i literal : ℕ) : Type 0 where
  place : ℕ
  early : place ≤ i
  within : v (inside c (moment_base c n place)) ≡ true
  here : literal_value v (literal_in_block (moment_base c n place) literal) ≡ true

module _ (c : Circuit) (checked : IsChecked c) (law : HasOneValuation c) (j : ℕ) (v : ℕ → Bool) (k : ℕ) (h : clauses_value v (positions_clauses c (fair_literals c j) k) ≡ true) where
  abbrev literals : List ℕ
  literals = fair_literals c j

  abbrev n : ℕ
  n = length (fair_literals c j)

  abbrev base : ℕ → ℕ
  base i = moment_base c (length (fair_literals c j)) i

  abbrev at : ℕ → Position
  at i = position_at c (length (fair_literals c j)) v i

  holds : (i : ℕ) → i < k → Holds v c literals (moment_before c n i) (base i)
  holds i below = parts_hold v c literals (moment_before c n i) (base i) (at_position v c literals k i below h)

  is_situation : (i : ℕ) → i < k → IsSituation c (situation_in c (base i) v)
  is_situation i below = block_read c checked law (base i) v (holds i below).block

  -- ---- the run

  possible : (i : ℕ) → i < k → MeetsConstraints c (at i)
  possible i below = (is_situation i below).possible

  linked : (i : ℕ) → suc i < k → successor c (at i) ≡ (at (suc i)).latches
  linked i below =
      sym (is_situation i (omega arith)).next
      ∙ sym (same_read v [] (state_start (base (suc i))) (successor_start c (base i)) c.latches (holds (suc i) below).state refl)

  begins_loop : (i : ℕ) → i < k → v (begins c (base i)) ≡ true → (at i).latches ≡ map v (map (λ latch. loop_start + latch.var) c.latches)
  begins_loop i below t = same_read v (minus (begins c (base i)) ∷ []) (state_start (base i)) loop_start c.latches (holds i below).begun (denied (v (begins c (base i))) t)

  closes_loop : (i : ℕ) → i < k → v (closes c (base i)) ≡ true → successor c (at i) ≡ map v (map (λ latch. loop_start + latch.var) c.latches)
  closes_loop i below t =
      sym (is_situation i below).next
      ∙ same_read v (minus (closes c (base i)) ∷ []) (successor_start c (base i)) loop_start c.latches (holds i below).closed (denied (v (closes c (base i))) t)

  starts : 0 < k → IsInitial c (at 0).latches
  starts some = initial_read v (state_start (base 0)) c.latches (holds 0 some).state

  abbrev run : List Position
  run = upto (position_at c (length (fair_literals c j)) v) k

  run_length : length run ≡ k
  run_length = length-upto (position_at c n v) k

  run_at : (i : ℕ) (d : Position) → i < k → get_or run i d ≡ at i
  run_at i d below = get_or-upto (position_at c n v) k i d below

  is_run : IsRun c run
  is_run =
      run_from c run
      (λ i d below. let inside : i < k = omega (arith, run_length) in subst (MeetsConstraints c) (sym (run_at i d inside)) (possible i inside))
      (λ i d below.
      let inside : suc i < k = omega (arith, run_length) in
      ap (successor c) (run_at i d (omega arith)) ∙ linked i inside ∙ ap (λ p. p.latches) (sym (run_at (suc i) d inside)))

  -- ---- the loop

  entered : (i : ℕ) → i < k → v (inside c (base i)) ≡ true → IsEntered c n v i
  entered zero below t =
      record { place = 0; early = omega arith; begun = alone (v (begins c (base 0))) (implied (v (inside c (base 0))) (v (begins c (base 0)) || false) (holds 0 below).within t) }
  entered (suc i) below t =
      elim (or_cases (v (begins c (base (suc i)))) (v (inside c (base i)) || false) (implied (v (inside c (base (suc i)))) _ (holds (suc i) below).within t)) [
        | inl here ↦ record { place = suc i; early = omega arith; begun = here }
        | inr before ↦
            let rest = entered i (omega arith) (alone (v (inside c (base i))) before) in
            let early = rest.early in
            record { place = rest.place; early = omega arith; begun = rest.begun }
      ]

  is_met : (i : ℕ) → i < k → (m d : ℕ) → m < n → IsMet v c (moment_before c n i) (base i) m (get_or literals m d)
  is_met i below m d inside = all_parts v c (moment_before c n i) (base i) 0 literals m d m (omega arith) inside (holds i below).all

  seen : (m d : ℕ) → m < n → (i : ℕ) → i < k → v (met c (base i) m) ≡ true → IsSeen c n v i (get_or literals m d)
  seen m d inside zero below t =
      let is = is_met 0 below m d inside in
      record { place = 0; early = omega arith; within = is.within t; here = alone (literal_value v (literal_in_block (base 0) (get_or literals m d))) (implied (v (met c (base 0) m)) _ is.seen t) }
  seen m d inside (suc i) below t =
      let is = is_met (suc i) below m d inside in
      elim (or_cases (literal_value v (literal_in_block (base (suc i)) (get_or literals m d))) (v (met c (base i) m) || false) (implied (v (met c (base (suc i)) m)) _ is.seen t)) [
        | inl here ↦ record { place = suc i; early = omega arith; within = is.within t; here = here }
        | inr before ↦
            let rest = seen m d inside i (omega arith) (alone (v (met c (base i) m)) before) in
            let early = rest.early in
            record { place = rest.place; early = omega arith; within = rest.within; here = rest.here }
      ]

  -- ---- the lasso

  module _ (last : ℕ) (e : suc last ≡ k) (t : v (closes c (base last)) ≡ true) where
    below_last : last < k
    below_last = omega arith

    last_inside : v (inside c (base last)) ≡ true
    last_inside = alone (v (inside c (base last))) (implied (v (closes c (base last))) (v (inside c (base last)) || false) (holds last below_last).last t)

    pub begin : IsFirst (λ i. v (begins c (base i))) k
    begin =
        let some = entered last below_last last_inside in
        let early = some.early in
        first (λ i. v (begins c (base i))) k some.place (omega arith) some.begun

    abbrev from : ℕ
    from = begin.place

    fair_at : (m d : ℕ) → m < n → Any (λ p. IsTrue (literal_at c p (get_or literals m d))) (drop from run)
    fair_at m d inside =
        let found = seen m d inside last below_last ((is_met last below_last m d inside).last t) in
        let early = found.early in
        let below : found.place < k = omega arith in
        let some = entered found.place below found.within in
        let least = first_least (λ i. v (begins c (base i))) k begin some.place some.begun in
        let before = some.early in
        let place : from + (found.place - from) ≡ found.place = omega arith in
        let p : Position = at found.place in (
          found.place - from,
          p,
          omega (arith, length-drop from run, run_length),
          get_or-drop from run (found.place - from) p ∙ ap (λ i. get_or run i p) place ∙ run_at found.place p below,
          literal_is c checked law (base found.place) v (holds found.place below).block (get_or literals m d) (fair_read c checked j m d inside) ∙ found.here,
        )

    initial : IsInitialRun c run
    initial =
        let size = run_length in
        initial_from c run is_run (λ d some. subst (IsInitial c) (ap (λ p. p.latches) (sym (run_at 0 d (omega arith)))) (starts (omega arith)))

    -- the first place, so that all that was seen lies behind it
    pub lasso_read : j < length c.justice → IsFairLasso c j run from
    lasso_read property =
        let small = begin.below in
        let size = run_length in
        let end : length run - 1 ≡ last = omega arith in
        record {
          property = property;
          initial = initial;
          inside = omega arith;
          closes = record {
            first = at from;
            last = at last;
            is_first = get_some run from (at from) (omega arith) ∙ ap Some (run_at from (at from) small);
            is_last = ap (λ i. slice_get run i) end ∙ get_some run last (at last) (omega arith) ∙ ap Some (run_at last (at last) below_last);
            closes = closes_loop last below_last t ∙ sym (begins_loop from small begin.here);
          };
          fair = λ m d within. fair_at m d within;
        }

    -- the stimulus of the run
    pub stimulus_read : j < length c.justice → (from : ℕ) × HasLasso c j (stimulus_in c j k v) k from
    stimulus_read property =
        let size = run_length in
        let inputs = inputs_are c n v k in
        let starts_in : StartsIn (map v (state_place c (base 0))) run = starts_at c run (map v (state_place c (base 0))) (λ d some. ap (λ p. p.latches) (run_at 0 d (omega arith))) in
        let laid : simulated c (map v (state_place c (base 0))) (inputs_in c n v k) ≡ run = ap (simulated c (map v (state_place c (base 0)))) inputs ∙ simulated-inputs c (map v (state_place c (base 0))) run is_run starts_in in
        let count : length (inputs_in c n v k) ≡ k = ap length inputs ∙ length-map run (λ p. p.inputs) ∙ run_length in
        let whole : take k (inputs_in c n v k) ≡ inputs_in c n v k = take_all k (inputs_in c n v k) (omega arith) in (
          from,
          record {
            fits = record {
              latches = (possible 0 (omega arith)).position.latches;
              inputs = subst (All (λ values. length values ≡ length c.inputs)) (sym inputs) (All-map (λ values. length values ≡ length c.inputs) (λ p. p.inputs) run (λ i d below. subst (λ p. length p.inputs ≡ length c.inputs) (sym (run_at i d (omega arith))) (possible i (omega arith)).position.inputs));
            };
            inside = omega arith;
            lasso = subst (λ r. IsFairLasso c j r from) (sym (ap (simulated c (map v (state_place c (base 0)))) whole ∙ laid)) (lasso_read property);
          },
        )
