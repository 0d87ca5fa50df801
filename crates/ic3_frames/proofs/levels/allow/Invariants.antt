use Rattle.std.proofs.Common.{◌≡◌, drop}
use Rattle.proof_semantics.specs.Clauses.{clauses_value, values_of}
use Rattle.ic3_frames.specs.Frames.{frame_at}
use Rattle.ic3_frames.specs.Kept.{keys_of}
use Rattle.ic3_frames.proofs.levels.allow.Given as goal

abbrev pub invariant-loop-own : goal.invariant-loop-own
invariant-loop-own l =
    clauses_value (values_of l.state) (frame_at (keys_of (drop l.own-index l.levels)) 0)
    ≡ clauses_value (values_of l.state) (frame_at (keys_of l.levels) 0)
