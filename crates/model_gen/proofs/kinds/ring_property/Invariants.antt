use Rattle.std.proofs.Common.{◌≡◌, ◌+◌, ◌*◌}
use Rattle.model_gen.specs.Generated.{made}
use Rattle.model_gen.proofs.kinds.ring_property.Given as goal

abbrev pub invariant-loop-i : goal.invariant-loop-i
invariant-loop-i l = l.literals ≡ made (λ i. 2 * (i + 1)) l.i
