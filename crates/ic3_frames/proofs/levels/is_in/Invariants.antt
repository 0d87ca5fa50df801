use Rattle.std.proofs.Common.{◌≡◌, drop}
use Rattle.ic3_frames.specs.Frames.{has_clause, frame_at}
use Rattle.ic3_frames.specs.Kept.{keys_of}
use Rattle.ic3_frames.proofs.levels.is_in.Given as goal

abbrev pub invariant-loop-own : goal.invariant-loop-own
invariant-loop-own l =
    has_clause (frame_at (keys_of (drop l.own-index l.sets)) 0) l.lemma ≡ has_clause (frame_at (keys_of l.sets) 0) l.lemma
