use Rattle.std.proofs.Common.{◌<◌, ◌^◌, sym, subst}
use Rattle.std.specs.List.{All}
use Rattle.cnf_unroll.proofs.Bounds.{latches_bound}
use Rattle.lasso_bmc.proofs.reading.stimulus_in.Goals as goal

pub latch_values-requires-clause-vars : goal.latch_values-requires-clause-vars
latch_values-requires-clause-vars c =
    subst (λ latches. All (λ latch. latch.var < 2 ^ 32) latches) (sym c.latches.ensures)
    (latches_bound c.args.c.now c.max-limits.ensures.checked c.max-limits.ensures.limits)
