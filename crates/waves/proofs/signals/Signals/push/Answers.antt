use Rattle.std.proofs.Common.{◌∙◌}
use Rattle.waves.proofs.KeptLaws.{keys_pushed}
use Rattle.waves.proofs.signals.Signals.push.Goals as goal

pub invariant_of-self-2 : goal.invariant_of-self-2
invariant_of-self-2 c =
    keys_pushed c.self.inside.list.items c.reserve.new.self.items c.push_reserved.new.self.items c.args.signal c.self.inside.names c.insert.new.self c.in_ok-name.name
    c.in_ok-reserve.ensures.items c.push_reserved.ensures.items (c.in_ok-name.ensures.items ∙ c.as_slice.ensures) c.in_ok-insert.ensures.keys c.self.invariant
