use Rattle.std.proofs.Common.{◌≡◌, ℕ, ◌<◌, length, get_or}
use Rattle.ic3_frames.specs.Frames.{own_lemmas}
use Rattle.ic3_frames.specs.Kept.{keys_of}
use Rattle.ic3_frames.proofs.levels.write_counts.Given as goal

abbrev pub invariant-loop-k : goal.invariant-loop-k
invariant-loop-k l = (i : ℕ) → i < l.k → get_or l.counts i 0 ≡ length (own_lemmas (keys_of l.levels) i)
