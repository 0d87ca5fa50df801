use Rattle.waves.proofs.SourceLaws.{all_pushed}
use Rattle.waves.proofs.named.push_all.Goals as goal

pub returns : goal.returns
returns c =
    all_pushed c.push_wires-2.result c.args.names.now c.new-none.result c.in_ok-known.known c.args.sources.now c.args.later.now c.args.named.now.items
    c.push_wires.new.named.items c.deref.result.now c.push_wires-2.new.named.items c.requires c.new-none.ensures.empty c.in_ok-push_wires.ensures
    c.deref.ensures.value c.in_ok-known.ensures c.push_wires-2.ensures
