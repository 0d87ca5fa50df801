use Rattle.std.proofs.Common.{◌≡◌, sym, subst, rules}
use Rattle.ternary.specs.Cubes.{KeepsTrue}
use Rattle.ic3_loops.specs.Lifting.{AreTrue}
use Rattle.ic3_loops.proofs.Lifted.{keeps-here, lifted-is}
use Rattle.ic3_loops.proofs.lifting.lift_step.Goals as goal

pub lift-requires-clause-keep : goal.lift-requires-clause-keep
lift-requires-clause-keep c =
    let same : c.deref.result.now ≡ c.in_ok-keep.keep.items = search rules in
    subst (AreTrue c.args.c.now c.args.p.now) (sym same)
    (keeps-here c.args.c.now c.args.p.now c.args.into.now c.args.literals.now c.in_ok-keep.keep.items c.in_ok-keep.ensures c.requires.over
    c.requires.possible c.requires.inside c.requires.holds)

pub returns : goal.returns
returns c =
    let same : c.deref.result.now ≡ c.in_ok-keep.keep.items = search rules in
    lifted-is c.args.c.now c.args.p.now c.args.into.now c.args.literals.now c.in_ok-keep.keep.items c.in_ok-cube.cube c.in_ok-keep.ensures
    c.requires.over c.requires.possible c.in_ok-cube.ensures.latches c.in_ok-cube.ensures.holds
    (subst (λ k. KeepsTrue c.args.c.now c.args.p.now.inputs k c.in_ok-cube.cube) same c.in_ok-cube.ensures.keeps)
