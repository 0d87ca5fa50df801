use Rattle.model_gen.specs.Generated.{ring_latch}
use Rattle.model_gen.proofs.Making.{made_push}
use Rattle.model_gen.proofs.kinds.ring_latches.Goals as goal

pub loop-i-preserved : goal.loop-i-preserved
loop-i-preserved c =
    made_push (ring_latch c.args.seed c.args.n) c.loop-i.i c.loop-i.latches c.push.new.self c.latch_in_ring.result
    c.in_ok-push.ensures.ok c.loop-i.invariant c.latch_in_ring.ensures
