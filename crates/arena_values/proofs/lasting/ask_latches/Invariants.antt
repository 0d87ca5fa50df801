use Rattle.edge.specs.Ends.{CountsConflicts}
use Rattle.arena_values.proofs.lasting.ask_latches.Given as goal

abbrev pub invariant-loop-i : goal.invariant-loop-i
invariant-loop-i l = CountsConflicts l.initial.meter l.meter
