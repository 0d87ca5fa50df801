use Rattle.std.proofs.Common.{refl, ◌*◌, ◌+◌}
use Rattle.model_gen.proofs.Making.{made_push}
use Rattle.model_gen.proofs.kinds.ring_property.Goals as goal

pub loop-i-preserved : goal.loop-i-preserved
loop-i-preserved c =
    made_push (λ i. 2 * (i + 1)) c.loop-i.i c.loop-i.literals c.push.new.self (2 * (c.loop-i.i + 1)) c.in_ok-push.ensures.ok c.loop-i.invariant refl
