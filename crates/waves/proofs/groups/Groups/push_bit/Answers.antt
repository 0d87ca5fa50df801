use Rattle.std.proofs.Common.{◌≡◌, length, arith}
use Rattle.waves.proofs.PlaceLaws.{inside_told, joined_told, joined_first, places_first, places_kept}
use Rattle.waves.proofs.groups.Groups.push_bit.Goals as goal

pub grow-requires : goal.grow-requires
grow-requires c =
    inside_told c.args.letter c.from.result c.args.base.now c.in_ok-from_slice.field-0 c.self.inside.list.items c.self.inside.places c.from.ensures
    c.in_ok-from_slice.ensures.items c.requires c.self.invariant c.in-Some.place.now c.in-Some.ensures.value

pub invariant_of-self : goal.invariant_of-self
invariant_of-self c =
    places_kept c.grow.result c.args.member c.self.inside.list.items c.grow.new.groups.items c.self.inside.places c.in-Some.place.now c.grow.ensures.ok c.grow.ensures.err
    c.self.invariant

pub returns-in-Some : goal.returns-in-Some
returns-in-Some c =
    joined_told c.args.letter c.from.result c.args.base.now c.in_ok-from_slice.field-0 c.self.inside.list.items c.self.inside.places c.from.ensures
    c.in_ok-from_slice.ensures.items c.requires c.self.invariant c.grow.result c.args.member c.in-Some.place.now c.args.self.now c.grow.new.groups.items c.self.view_is
    c.in-Some.ensures.value c.grow.ensures.ok

pub invariant_of-self-2 : goal.invariant_of-self-2
invariant_of-self-2 c =
    let many : c.len.result ≡ length c.reserve.new.self.items = omega (arith, c.len.ensures, c.reserve.new.self.ok.0) in
    places_first c.args.letter c.from.result c.args.base.now c.in_ok-from_slice.field-0 c.self.inside.list.items c.self.inside.places c.from.ensures
    c.in_ok-from_slice.ensures.items c.requires c.self.invariant c.args.member c.reserve.new.self.items c.push_reserved.new.self.items c.insert.new.self
    c.in_ok-group.group c.len.result c.in_default.ensures.value c.in_ok-reserve.ensures.items c.push_reserved.ensures.items c.in_ok-group.ensures
    many c.in_ok-insert.ensures.updates.0

pub returns : goal.returns
returns c =
    joined_first c.args.letter c.from.result c.args.base.now c.in_ok-from_slice.field-0 c.self.inside.list.items c.self.inside.places c.from.ensures
    c.in_ok-from_slice.ensures.items c.requires c.self.invariant c.args.member c.args.self.now c.reserve.new.self.items c.push_reserved.new.self.items
    c.in_ok-group.group c.self.view_is c.in_default.ensures.value c.in_ok-reserve.ensures.items c.push_reserved.ensures.items c.in_ok-group.ensures
