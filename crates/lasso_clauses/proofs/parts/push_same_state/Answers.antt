use Rattle.std.proofs.Common.{◌<◌, ◌^◌, subst, sym}
use Rattle.std.specs.List.{All}
use Rattle.cnf_unroll.proofs.Bounds.{latches_bound}
use Rattle.lasso_clauses.proofs.parts.push_same_state.Goals as goal

pub push_same_values-requires-clause-vars : goal.push_same_values-requires-clause-vars
push_same_values-requires-clause-vars c =
    subst (λ latches. All (λ latch. latch.var < 2 ^ 32) latches) (sym c.latches.ensures)
    (latches_bound c.args.c.now c.max-limits.ensures.checked c.max-limits.ensures.limits)
