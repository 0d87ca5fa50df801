use Rattle.std.proofs.Common.{refl}
use Rattle.ternary.specs.Simulation.{beside3, given3, value3_through, values3_below, simulation}
use Rattle.ternary.proofs.worked_rows.gate_of_unknown_input.Goals as goal

pub returns-clause-latch_zero : goal.returns-clause-latch_zero
unfolding beside3 given3 value3_through values3_below simulation
returns-clause-latch_zero c = refl

pub returns-clause-latch_one : goal.returns-clause-latch_one
unfolding beside3 given3 value3_through values3_below simulation
returns-clause-latch_one c = refl
