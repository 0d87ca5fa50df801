use Rattle.std.proofs.Common.{◌∙◌, ap, []}
use Rattle.waves.specs.Buses.{first_of}
use Rattle.waves.proofs.PlaceLaws.{places_alone}
use Rattle.waves.proofs.groups.Groups.push_alone.Goals as goal

pub invariant_of-self-2 : goal.invariant_of-self-2
invariant_of-self-2 c =
    places_alone c.self.inside.list.items c.push.new.self.items c.self.inside.places c.in_ok-group.group c.args.named.now c.in_ok-push.ensures.items
    (c.in_ok-group.ensures ∙ ap (first_of 0 []) c.in_ok-member.ensures) c.self.invariant
