use Rattle.std.proofs.Common.{sym, subst}
use Rattle.std.specs.Option.{IfSome}
use Rattle.cdcl_trail.specs.Looking.{IsOpenTo}
use Rattle.cdcl_trail.proofs.GuardLaws.{unfalse_fewer}
use Rattle.cdcl_trail.proofs.choosing.pair_false_from.Goals as goal

pub returns-in-Some : goal.returns-in-Some
returns-in-Some c =
    let s = c.args.assignment.now.steps in
    subst (λ o. IfSome o (IsOpenTo c.lesser.result s)) (sym c.in-Some.is) (
      unfalse_fewer s c.lesser.result c.false_from-first.result c.in-Some.pair.first c.lesser.ensures.first c.false_from-first.ensures,
      unfalse_fewer s c.lesser.result c.false_from-second.result c.in-Some.pair.second c.lesser.ensures.second c.false_from-second.ensures,
    )
