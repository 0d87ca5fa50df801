-- How a search ends by what its solver or its meter answers (scaffolding).
use Rattle.edge.specs.declared.metering.Counted.{Counted}
use Rattle.edge.specs.declared.metering.Counted.TheVariants.{Conflicts, Steps}
use Rattle.edge.specs.declared.solve_end.SolveEnd.{SolveEnd}
use Rattle.edge.specs.declared.solve_end.SolveEnd.TheVariants as ends
use Rattle.ic3_semantics.specs.declared.questions.ReachEnd.{ReachEnd}
use Rattle.ic3_semantics.specs.declared.questions.ReachEnd.TheVariants.{SpentConflicts, SpentSteps, Memory}

abbrev pub end_of_kind : Counted → ReachEnd
end_of_kind Conflicts = SpentConflicts
end_of_kind Steps = SpentSteps

abbrev pub reach_end : SolveEnd → ReachEnd
reach_end (ends.Spent spent) = end_of_kind spent.kind
reach_end ends.Memory = Memory
