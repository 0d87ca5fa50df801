use Rattle.std.proofs.Common.{◌≡◌, ◌+◌, length}
use Rattle.stimulus.proofs.TrackLemmas.{IsReplayed}
use Rattle.stimulus.proofs.replaying.walk_on.Given as goal

abbrev pub invariant-loop-k : goal.invariant-loop-k
invariant-loop-k l = IsReplayed l.c l.j l.s l.k l.walk × (length l.values ≡ l.c.max + 1)
