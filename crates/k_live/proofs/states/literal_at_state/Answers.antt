use Rattle.std.proofs.Common.{◌<◌, ◌^◌, subst, sym, ap, arith}
use Rattle.std.specs.List.{All}
use Rattle.cnf_unroll.proofs.Bounds.{latches_bound}
use Rattle.k_live.proofs.states.literal_at_state.Goals as goal

pub overflow_add-var : goal.overflow_add-var
overflow_add-var c =
    let bound =
    subst (λ latches. All (λ latch. latch.var < 2 ^ 32) latches) (sym c.latches.ensures)
    (latches_bound c.args.c.now c.max-limits.ensures.checked c.max-limits.ensures.limits)
    in
    let found = c.in-Some.ensures.lookup in
    let here = bound c.args.literal.var c.in-Some.latch.now found.3.0 in
    let same = ap (λ latch. latch.var) (found.3.1 c.in-Some.latch.now) in
    omega (arith, here, same)
