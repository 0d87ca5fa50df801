use Rattle.std.proofs.Common.{◌≡◌, ◌++◌}
use Rattle.ic3_frames.specs.Frames.{frame_at}
use Rattle.ic3_loops.proofs.closing.lemmas_from.Given as goal

abbrev pub invariant-loop-k : goal.invariant-loop-k
invariant-loop-k l = l.clauses ++ frame_at l.frames l.k ≡ frame_at l.frames l.level
