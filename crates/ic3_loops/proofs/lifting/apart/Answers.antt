use Rattle.std.proofs.Common.{◌≡◌, true, sym, subst, arith}
use Rattle.ic3_generalise.specs.Cubes.{misses_starts}
use Rattle.ic3_loops.proofs.Lifted.{apart-none, apart-more, apart-all}
use Rattle.ic3_loops.proofs.lifting.apart.Goals as goal

pub based-requires-clause-misses : goal.based-requires-clause-misses
based-requires-clause-misses c =
    subst (λ a. misses_starts a c.args.whole.now ≡ true) (sym c.index-avoid-k.is)
    (c.requires.misses c.loop-k.k c.index-avoid-k.result (omega arith))

pub based-requires-clause-among : goal.based-requires-clause-among
based-requires-clause-among c = c.loop-k.invariant.among

pub loop-k-preserved : goal.loop-k-preserved
loop-k-preserved c =
    apart-more c.args.avoid.now c.args.whole.now c.args.part c.loop-k.longer c.in_ok-next.next c.loop-k.k c.index-avoid-k.result (omega arith)
    c.index-avoid-k.is c.loop-k.invariant c.in_ok-next.ensures

pub loop-k-init : goal.loop-k-init
loop-k-init c = apart-none c.args.avoid.now c.args.whole.now c.args.part c.requires.among

pub returns : goal.returns
returns c = apart-all c.args.avoid.now c.args.whole.now c.args.part c.loop-k.longer c.loop-k.k (omega arith) c.loop-k.invariant
