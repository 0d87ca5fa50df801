use Rattle.std.proofs.Common.{length}
use Rattle.stimulus.proofs.TextLemmas.{LinesRead}
use Rattle.stimulus.proofs.reading.read_kept.Given as goal

abbrev pub invariant-loop-line : goal.invariant-loop-line
invariant-loop-line l = LinesRead l.fn.bytes l.rest l.lines l.number

abbrev pub decreases-loop-line : goal.decreases-loop-line
decreases-loop-line l = length l.rest
