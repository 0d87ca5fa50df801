use Rattle.aig_semantics.specs.Runs.{IsPosition}
use Rattle.circuit.proofs.RoundsAlong.{all_on}
use Rattle.circuit.proofs.counts.are_positions.Goals as goal

pub loop-position-preserved : goal.loop-position-preserved
loop-position-preserved c =
    all_on (IsPosition c.args.c.now) c.args.run.now c.loop-position.position-index c.position-item.result c.loop-position-test.true c.position-item.is
    (c.is_position.ensures.0 c.if-not-is_position.false) c.loop-position.invariant
