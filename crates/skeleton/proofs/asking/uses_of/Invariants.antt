use Rattle.std.proofs.Common.{◌≡◌, ◌++◌, drop}
use Rattle.entry.specs.CheckedEntries.{viewed}
use Rattle.skeleton.specs.Reading.{uses_from}
use Rattle.skeleton.proofs.asking.uses_of.Given as goal

abbrev pub invariant-loop-number : goal.invariant-loop-number
invariant-loop-number l = l.uses ++ uses_from l.number (viewed (drop l.number l.view)) ≡ uses_from 0 (viewed l.view)
