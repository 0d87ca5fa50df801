use Rattle.waves.proofs.SourceLaws.{wires_done}
use Rattle.waves.proofs.named.push_wires.Goals as goal

pub returns : goal.returns
returns c =
    wires_done c.args.names.now c.args.sources.now c.args.named.now.items c.loop-wire.named.items c.args.wires.now c.loop-wire.wire-index c.loop-wire-test.false
    c.loop-wire.invariant
