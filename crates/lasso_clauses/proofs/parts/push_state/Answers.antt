use Rattle.std.proofs.Common.{◌<◌, ◌^◌, subst, sym}
use Rattle.std.specs.List.{All}
use Rattle.cnf_unroll.proofs.Bounds.{latches_bound}
use Rattle.lasso_clauses.proofs.parts.push_state.Goals as goal

pub push_resets-requires-clause-vars : goal.push_resets-requires-clause-vars
push_resets-requires-clause-vars c =
    subst (λ latches. All (λ latch. latch.var < 2 ^ 32) latches) (sym c.latches.ensures)
    (latches_bound c.args.at.now.circuit.now c.max-max.ensures.checked c.max-max.ensures.limits)
