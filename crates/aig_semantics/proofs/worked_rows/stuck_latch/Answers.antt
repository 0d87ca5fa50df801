use Rattle.std.proofs.Common.{◌≡◌, ℕ, zero, suc, true, false, [], ◌∷◌, take, arith}
use Rattle.aig_semantics.specs.Valuations.{value_beside, given_value, value_through, values_below, valuation}
use Rattle.aig_semantics.specs.Stimuli.{simulated, HasLasso}
use Rattle.aig_semantics.proofs.Lassos.{fairness-tested, fairness-of_drop}
use Rattle.aig_semantics.specs.Examples.{stuck, without_inputs}
use Rattle.aig_semantics.proofs.worked_rows.stuck_latch.Goals as goal

never_true : (k from : ℕ) → HasLasso stuck 0 (without_inputs (false ∷ []) 1) k from → ⊥
unfolding value_beside given_value value_through values_below valuation simulated
never_true zero from h = omega (arith, h.lasso.inside)
never_true (suc zero) from h =
    let run = simulated stuck (false ∷ []) (take 1 (without_inputs (false ∷ []) 1).inputs) in
    let e : false ≡ true = fairness-tested stuck 0 run (fairness-of_drop stuck 0 from run h.lasso.fair) in
    cc
never_true (suc (suc k)) from h = omega (arith, h.inside)

pub returns : goal.returns
returns c = never_true
