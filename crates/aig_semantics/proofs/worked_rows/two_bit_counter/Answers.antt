use Rattle.std.proofs.Common.{◌≡◌, ℕ, zero, suc, ◌≤◌, Bool, true, false, [], ◌∷◌, take, length, refl, arith}
use Rattle.std.proofs.lemmas.List.Elements.{All-replicate, All-from_recursion}
use Rattle.aig_semantics.specs.Valuations.{value_beside, given_value, value_through, values_below, valuation}
use Rattle.aig_semantics.specs.Stimuli.{simulated, HasLasso}
use Rattle.aig_semantics.proofs.Lassos.{constraints-met, fairness-met, fairness-tested, fairness-of_drop}
use Rattle.std.proofs.Common.{lit≤, lit<}
use Rattle.std.specs.List.{Contains}
use Rattle.aig_semantics.specs.declared.parts.Gate.{Gate}
use Rattle.aig_semantics.specs.Circuits.{defined, used}
use Rattle.aig_semantics.specs.Literals.{variable_in}
use Rattle.aig_semantics.specs.Valuations.{conjunction}
use Rattle.aig_semantics.proofs.Checking.{ReadsLower, acyclic-from_lower, once-from_tests, defined-from_test}
use Rattle.aig_semantics.specs.Examples.{counter, without_inputs}
use Rattle.aig_semantics.proofs.worked_rows.two_bit_counter.Goals as goal

four_positions : HasLasso counter 0 (without_inputs (false ∷ false ∷ []) 4) 4 0
unfolding value_beside given_value value_through values_below valuation simulated
four_positions = record {
  fits = record { latches = refl; inputs = All-replicate (λ values. length values ≡ 0) 4 [] refl };
  inside = omega arith;
  lasso = record {
    property = omega arith;
    initial = ((refl, (refl, tt)), (constraints-met _ _ refl refl refl, refl, (constraints-met _ _ refl refl refl, refl, (constraints-met _ _ refl refl refl, refl, (constraints-met _ _ refl refl refl, tt, tt)))));
    inside = omega arith;
    closes = record { first = _; last = _; is_first = refl; is_last = refl; closes = refl };
    fair = fairness-met counter 0 (simulated counter (without_inputs (false ∷ false ∷ []) 4).latches (take 4 (without_inputs (false ∷ false ∷ []) 4).inputs)) refl;
  };
}

pub returns-clause-computed : goal.returns-clause-computed
unfolding value_beside given_value value_through values_below valuation simulated
returns-clause-computed c = refl

pub returns-clause-reversed : goal.returns-clause-reversed
unfolding value_beside given_value value_through values_below valuation simulated
returns-clause-reversed c = refl

true_true : (v : ℕ) → (Contains (defined counter) v → ⊥) → variable_in (valuation counter (true ∷ true ∷ []) []) v ≡ false
unfolding value_beside given_value value_through values_below valuation simulated
true_true zero h = refl
true_true (suc zero) h = absurd (h (0, omega arith, refl))
true_true (suc (suc zero)) h = absurd (h (1, omega arith, refl))
true_true (suc (suc (suc zero))) h = refl
true_true (suc (suc (suc (suc zero)))) h = refl
true_true (suc (suc (suc (suc (suc zero))))) h = absurd (h (4, omega arith, refl))
true_true (suc (suc (suc (suc (suc (suc zero)))))) h = absurd (h (5, omega arith, refl))
true_true (suc (suc (suc (suc (suc (suc (suc v))))))) h = refl

pub returns-clause-meets : goal.returns-clause-meets
unfolding value_beside given_value value_through values_below valuation simulated
returns-clause-meets c =
    let value : ℕ → Bool = variable_in (valuation counter (true ∷ true ∷ []) []) in
    let P : Gate → Type 0 = λ gate. value gate.var ≡ conjunction value gate in
    record {
      size = refl;
      equations = record {
        constant = refl;
        given_latches = refl;
        given_inputs = refl;
        conjunctions = All-from_recursion P counter.gates (refl, (refl, (refl, (refl, tt))));
      };
      nowhere = true_true;
    }

pub returns-clause-checked : goal.returns-clause-checked
returns-clause-checked c =
    let Inside : ℕ → Type 0 = λ v. (1 ≤ v) × (v ≤ 6) in
    record {
      in_range = All-from_recursion Inside (defined counter) ((lit≤ tt, lit≤ tt), ((lit≤ tt, lit≤ tt), ((lit≤ tt, lit≤ tt), ((lit≤ tt, lit≤ tt), ((lit≤ tt, lit≤ tt), ((lit≤ tt, lit≤ tt), tt))))));
      once = once-from_tests (defined counter) (refl, (refl, (refl, (refl, (refl, (refl, tt))))));
      used_defined = defined-from_test counter (used counter) refl;
      acyclic = acyclic-from_lower counter (All-from_recursion ReadsLower counter.gates ((lit< tt, lit< tt), ((lit< tt, lit< tt), ((lit< tt, lit< tt), ((lit< tt, lit< tt), tt)))));
    }

at_least_four : (n place : ℕ) → HasLasso counter 0 (without_inputs (false ∷ false ∷ []) 4) n place → 4 ≤ n
unfolding value_beside given_value value_through values_below valuation simulated
at_least_four zero place h = absurd (omega (arith, h.lasso.inside))
at_least_four (suc zero) place h =
    let run = simulated counter (false ∷ false ∷ []) (take 1 (without_inputs (false ∷ false ∷ []) 4).inputs) in
    let e : false ≡ true = fairness-tested counter 0 run (fairness-of_drop counter 0 place run h.lasso.fair) in
    absurd (cc)
at_least_four (suc (suc zero)) place h =
    let run = simulated counter (false ∷ false ∷ []) (take 2 (without_inputs (false ∷ false ∷ []) 4).inputs) in
    let e : false ≡ true = fairness-tested counter 0 run (fairness-of_drop counter 0 place run h.lasso.fair) in
    absurd (cc)
at_least_four (suc (suc (suc zero))) place h =
    let run = simulated counter (false ∷ false ∷ []) (take 3 (without_inputs (false ∷ false ∷ []) 4).inputs) in
    let e : false ≡ true = fairness-tested counter 0 run (fairness-of_drop counter 0 place run h.lasso.fair) in
    absurd (cc)
at_least_four (suc (suc (suc (suc n)))) place h = omega arith

pub returns-clause-stands : goal.returns-clause-stands
returns-clause-stands c = record { has = four_positions; shortest = at_least_four; earliest = λ place h. omega arith }
