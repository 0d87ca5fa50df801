use Rattle.std.proofs.Common.{◌≡◌, zero, suc, true, false, refl, arith}
use Rattle.std.specs.List.{Contains}
use Rattle.aig_semantics.specs.Valuations.{value_beside, given_value, value_through, values_below, valuation}
use Rattle.aig_semantics.specs.Circuits.{defined}
use Rattle.aig_semantics.specs.Examples.{input_and_latch}
use Rattle.aig_semantics.proofs.worked_rows.input_and_latch_values.Goals as goal

pub returns-clause-input_false : goal.returns-clause-input_false
unfolding value_beside given_value value_through values_below valuation
returns-clause-input_false c = refl

pub returns-clause-latch_false : goal.returns-clause-latch_false
unfolding value_beside given_value value_through values_below valuation
returns-clause-latch_false c = refl

pub returns-clause-both_true : goal.returns-clause-both_true
unfolding value_beside given_value value_through values_below valuation
returns-clause-both_true c = refl

pub returns-clause-wrong_gate : goal.returns-clause-wrong_gate
returns-clause-wrong_gate c = λ h.
    let e : false ≡ true = h.equations.conjunctions 0 (record { var = 3; rhs0 = 4; rhs1 = 2 }) (omega arith) in
    cc

four_nowhere : Contains (defined input_and_latch) 4 → ⊥
four_nowhere (zero, inside, at) = omega (arith, at)
four_nowhere (suc zero, inside, at) = omega (arith, at)
four_nowhere (suc (suc zero), inside, at) = omega (arith, at)
four_nowhere (suc (suc (suc k)), inside, at) = omega (arith, inside)

pub returns-clause-wrong_nowhere : goal.returns-clause-wrong_nowhere
returns-clause-wrong_nowhere c = λ h.
    let e : true ≡ false = h.nowhere 4 four_nowhere in
    cc

pub returns-clause-too_short : goal.returns-clause-too_short
returns-clause-too_short c = λ h. omega (arith, h.size)
