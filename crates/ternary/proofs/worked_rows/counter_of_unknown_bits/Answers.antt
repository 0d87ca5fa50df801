use Rattle.std.proofs.Common.{refl}
use Rattle.ternary.specs.Simulation.{beside3, given3, value3_through, values3_below, simulation}
use Rattle.ternary.proofs.worked_rows.counter_of_unknown_bits.Goals as goal

pub returns-clause-low : goal.returns-clause-low
unfolding beside3 given3 value3_through values3_below simulation
returns-clause-low c = refl

pub returns-clause-high : goal.returns-clause-high
unfolding beside3 given3 value3_through values3_below simulation
returns-clause-high c = refl

pub returns-clause-both : goal.returns-clause-both
unfolding beside3 given3 value3_through values3_below simulation
returns-clause-both c = refl

pub returns-clause-none : goal.returns-clause-none
unfolding beside3 given3 value3_through values3_below simulation
returns-clause-none c = refl
