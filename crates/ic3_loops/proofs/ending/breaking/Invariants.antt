use Rattle.std.proofs.Common.{take}
use Rattle.entry.specs.CheckedEntries.{viewed}
use Rattle.ic3_loops.specs.Lifting.{IsBreaking}
use Rattle.ic3_loops.proofs.ending.breaking.Given as goal

abbrev pub invariant-loop-entry : goal.invariant-loop-entry
invariant-loop-entry l = IsBreaking (take l.entry-index (viewed l.view)) l.state l.cube
