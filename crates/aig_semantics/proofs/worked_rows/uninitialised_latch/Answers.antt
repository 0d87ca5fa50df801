use Rattle.std.proofs.Common.{◌≡◌, ℕ, zero, suc, ◌≤◌, true, false, [], ◌∷◌, take, length, refl, arith}
use Rattle.std.proofs.lemmas.List.Elements.{All-replicate}
use Rattle.aig_semantics.specs.Valuations.{value_beside, given_value, value_through, values_below, valuation}
use Rattle.aig_semantics.specs.Stimuli.{simulated, HasLasso}
use Rattle.aig_semantics.proofs.Lassos.{constraints-met, fairness-met, fairness-tested, fairness-of_drop}
use Rattle.aig_semantics.specs.Examples.{kept, without_inputs}
use Rattle.aig_semantics.proofs.worked_rows.uninitialised_latch.Goals as goal

one_position : HasLasso kept 0 (without_inputs (true ∷ []) 1) 1 0
unfolding value_beside given_value value_through values_below valuation simulated
one_position = record {
  fits = record { latches = refl; inputs = All-replicate (λ values. length values ≡ 0) 1 [] refl };
  inside = omega arith;
  lasso = record {
    property = omega arith;
    initial = ((tt, tt), (constraints-met _ _ refl refl refl, tt, tt));
    inside = omega arith;
    closes = record { first = _; last = _; is_first = refl; is_last = refl; closes = refl };
    fair = fairness-met kept 0 (simulated kept (without_inputs (true ∷ []) 1).latches (take 1 (without_inputs (true ∷ []) 1).inputs)) refl;
  };
}

at_least_one : (n place : ℕ) → HasLasso kept 0 (without_inputs (true ∷ []) 1) n place → 1 ≤ n
unfolding value_beside given_value value_through values_below valuation simulated
at_least_one zero place h = absurd (omega (arith, h.lasso.inside))
at_least_one (suc n) place h = omega arith

never_true : (k from : ℕ) → HasLasso kept 0 (without_inputs (false ∷ []) 1) k from → ⊥
unfolding value_beside given_value value_through values_below valuation simulated
never_true zero from h = omega (arith, h.lasso.inside)
never_true (suc zero) from h =
    let run = simulated kept (false ∷ []) (take 1 (without_inputs (false ∷ []) 1).inputs) in
    let e : false ≡ true = fairness-tested kept 0 run (fairness-of_drop kept 0 from run h.lasso.fair) in
    cc
never_true (suc (suc k)) from h = omega (arith, h.inside)

pub returns-clause-begun_true : goal.returns-clause-begun_true
returns-clause-begun_true c = record { has = one_position; shortest = at_least_one; earliest = λ place h. omega arith }

pub returns-clause-begun_false : goal.returns-clause-begun_false
returns-clause-begun_false c = never_true
