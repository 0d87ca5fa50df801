use Rattle.std.proofs.Common.{◌≡◌}
use Rattle.model_gen.specs.Generated.{made, ring_latch}
use Rattle.model_gen.proofs.kinds.ring_latches.Given as goal

abbrev pub invariant-loop-i : goal.invariant-loop-i
invariant-loop-i l = l.latches ≡ made (ring_latch l.seed l.n) l.i
