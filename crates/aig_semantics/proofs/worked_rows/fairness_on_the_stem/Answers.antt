use Rattle.std.proofs.Common.{◌≡◌, ℕ, zero, suc, true, false, [], ◌∷◌, drop, take, refl, arith}
use Rattle.aig_semantics.specs.Valuations.{value_beside, given_value, value_through, values_below, valuation}
use Rattle.aig_semantics.specs.Stimuli.{simulated, HasLasso}
use Rattle.aig_semantics.proofs.Lassos.{fairness-tested, closes-between}
use Rattle.aig_semantics.specs.Examples.{rising, without_inputs}
use Rattle.aig_semantics.proofs.worked_rows.fairness_on_the_stem.Goals as goal

not_on_the_loop : (k from : ℕ) → HasLasso rising 0 (without_inputs (false ∷ []) 2) k from → ⊥
unfolding value_beside given_value value_through values_below valuation simulated
not_on_the_loop zero from h = omega (arith, h.lasso.inside)
not_on_the_loop (suc zero) zero h =
    let e : (true ∷ []) ≡ (false ∷ []) = closes-between _ _ 0 _ _ refl refl h.lasso.closes in
    cc
not_on_the_loop (suc zero) (suc from) h = omega (arith, h.lasso.inside)
not_on_the_loop (suc (suc zero)) zero h =
    let e : (true ∷ []) ≡ (false ∷ []) = closes-between _ _ 0 _ _ refl refl h.lasso.closes in
    cc
not_on_the_loop (suc (suc zero)) (suc zero) h =
    let run = simulated rising (false ∷ []) (take 2 (without_inputs (false ∷ []) 2).inputs) in
    let e : false ≡ true = fairness-tested rising 0 (drop 1 run) h.lasso.fair in
    cc
not_on_the_loop (suc (suc zero)) (suc (suc from)) h = omega (arith, h.lasso.inside)
not_on_the_loop (suc (suc (suc k))) from h = omega (arith, h.inside)

pub returns : goal.returns
returns c = not_on_the_loop
