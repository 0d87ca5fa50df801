use Rattle.std.proofs.Common.{arith}
use Rattle.ic3.proofs.Anew.{held_up_to_first, held_up_to_last}
use Rattle.ic3.proofs.renewing.hold_all.Goals as goal

pub loop-place-init : goal.loop-place-init
loop-place-init c = held_up_to_first c.args.lemmas.now c.args.s.now

pub returns : goal.returns
returns c =
    held_up_to_last c.args.lemmas.now c.loop-place.place c.args.s.now c.loop-place.s (omega (arith, c.loop-place-test.false))
    c.loop-place.invariant
