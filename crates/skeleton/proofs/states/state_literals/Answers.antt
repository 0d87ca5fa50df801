use Rattle.std.proofs.Common.{◌<◌, ◌^◌, subst, sym}
use Rattle.std.specs.List.{All}
use Rattle.cnf_unroll.proofs.Bounds.{latches_bound}
use Rattle.skeleton.proofs.states.state_literals.Goals as goal

pub latch_literals-requires-clause-vars : goal.latch_literals-requires-clause-vars
latch_literals-requires-clause-vars c =
    subst (λ latches. All (λ latch. latch.var < 2 ^ 32) latches) (sym c.latches.ensures)
    (latches_bound c.args.c.now c.max-limits.ensures.checked c.max-limits.ensures.limits)
