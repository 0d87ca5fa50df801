use Rattle.std.proofs.Common.{◌≡◌, ℕ, zero, suc, true, false, [], ◌∷◌, arith}
use Rattle.aig_semantics.specs.Valuations.{value_beside, given_value, value_through, values_below, valuation}
use Rattle.aig_semantics.specs.Stimuli.{simulated, HasLasso}
use Rattle.aig_semantics.proofs.Lassos.{constraints-tested}
use Rattle.aig_semantics.specs.Examples.{kept_false, without_inputs}
use Rattle.aig_semantics.proofs.worked_rows.constrained_latch.Goals as goal

constraint_false : (k from : ℕ) → HasLasso kept_false 0 (without_inputs (true ∷ []) 1) k from → ⊥
unfolding value_beside given_value value_through values_below valuation simulated
constraint_false zero from h = omega (arith, h.lasso.inside)
constraint_false (suc zero) from h =
    let e : false ≡ true = constraints-tested kept_false (record { latches = true ∷ []; inputs = [] }) h.lasso.initial.1.0 in
    cc
constraint_false (suc (suc k)) from h = omega (arith, h.inside)

pub returns : goal.returns
returns c = constraint_false
