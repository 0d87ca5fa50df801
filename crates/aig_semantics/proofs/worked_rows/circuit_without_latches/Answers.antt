use Rattle.std.proofs.Common.{◌≡◌, ℕ, zero, suc, ◌≤◌, true, [], ◌∷◌, take, length, refl, arith}
use Rattle.std.proofs.lemmas.List.Elements.{All-nil, All-cons}
use Rattle.aig_semantics.specs.Valuations.{value_beside, given_value, value_through, values_below, valuation}
use Rattle.aig_semantics.specs.Stimuli.{simulated, HasLasso}
use Rattle.aig_semantics.proofs.Lassos.{constraints-met, fairness-met}
use Rattle.aig_semantics.specs.Examples.{one_input}
use Rattle.aig_semantics.specs.declared.traces.Stimulus.{Stimulus}
use Rattle.aig_semantics.proofs.worked_rows.circuit_without_latches.Goals as goal

abbrev input_true : Stimulus
input_true = record { latches = []; inputs = (true ∷ []) ∷ [] }

one_position : HasLasso one_input 0 input_true 1 0
unfolding value_beside given_value value_through values_below valuation simulated
one_position = record {
  fits = record { latches = refl; inputs = All-cons (λ values. length values ≡ 1) (true ∷ []) [] refl (All-nil (λ values. length values ≡ 1)) };
  inside = omega arith;
  lasso = record {
    property = omega arith;
    initial = (tt, (constraints-met _ _ refl refl refl, tt, tt));
    inside = omega arith;
    closes = record { first = _; last = _; is_first = refl; is_last = refl; closes = refl };
    fair = fairness-met one_input 0 (simulated one_input input_true.latches (take 1 input_true.inputs)) refl;
  };
}

at_least_one : (n place : ℕ) → HasLasso one_input 0 input_true n place → 1 ≤ n
unfolding value_beside given_value value_through values_below valuation simulated
at_least_one zero place h = absurd (omega (arith, h.lasso.inside))
at_least_one (suc n) place h = omega arith

pub returns : goal.returns
returns c = record { has = one_position; shortest = at_least_one; earliest = λ place h. omega arith }
