use Rattle.std.proofs.Common.{◌≢◌, ℕ, ◌+◌, ◌<◌, []}
use Rattle.ic3_frames.specs.Frames.{own_lemmas}
use Rattle.ic3_frames.specs.Kept.{keys_of}
use Rattle.ic3_frames.proofs.levels.first_empty.Given as goal

abbrev pub invariant-loop-k : goal.invariant-loop-k
invariant-loop-k l = (i : ℕ) → i + 1 < l.k → own_lemmas (keys_of l.levels) i ≢ []
