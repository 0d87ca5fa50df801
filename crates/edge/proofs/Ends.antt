-- Laws of what questions to a solver leave of a meter.
use Rattle.std.proofs.Common.{◌≤◌, refl, ◌∙◌, arith}
use Rattle.edge.specs.Units.{Spendings}
use Rattle.edge.specs.Ends.{CountsConflicts}

-- no question was asked
pub counts_none : (a : Spendings) → CountsConflicts a a
counts_none a = record { conflict_limit = refl; step_limit = refl; steps = refl; conflicts = omega arith }

-- one came behind another
pub counts_on : (a b c : Spendings) → CountsConflicts a b → CountsConflicts b c → CountsConflicts a c
counts_on a b c first second = record {
  conflict_limit = second.conflict_limit ∙ first.conflict_limit;
  step_limit = second.step_limit ∙ first.step_limit;
  steps = second.steps ∙ first.steps;
  conflicts = omega arith;
}
