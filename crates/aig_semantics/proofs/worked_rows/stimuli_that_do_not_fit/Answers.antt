use Rattle.std.proofs.Common.{◌≡◌, ℕ, zero, suc, true, false, [], ◌∷◌, arith}
use Rattle.aig_semantics.specs.Valuations.{value_beside, given_value, value_through, values_below, valuation}
use Rattle.aig_semantics.specs.Stimuli.{simulated, HasLasso}
use Rattle.aig_semantics.specs.Examples.{toggle, without_inputs}
use Rattle.aig_semantics.proofs.worked_rows.stimuli_that_do_not_fit.Goals as goal

not_initial : (k from : ℕ) → HasLasso toggle 0 (without_inputs (true ∷ []) 2) k from → ⊥
unfolding value_beside given_value value_through values_below valuation simulated
not_initial zero from h = omega (arith, h.lasso.inside)
not_initial (suc k) from h =
    let e : true ≡ false = h.lasso.initial.0.0 in
    cc

pub returns-clause-not_initial : goal.returns-clause-not_initial
returns-clause-not_initial c = not_initial
