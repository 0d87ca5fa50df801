use Rattle.std.proofs.Common.{◌<◌, ◌^◌, subst, sym, ap, arith}
use Rattle.std.specs.List.{All}
use Rattle.cnf_unroll.proofs.Bounds.{latches_bound}
use Rattle.entry.proofs.judge.broken_literal.Goals as goal

pub overflow_add-var-in-Some : goal.overflow_add-var-in-Some
overflow_add-var-in-Some c =
    let bound =
    subst (λ latches. All (λ latch. latch.var < 2 ^ 32) latches) (sym c.latches.ensures)
    (latches_bound c.args.c.now c.max-greatest.ensures.checked c.max-greatest.ensures.limits)
    in
    let most = c.max-greatest.ensures.limits.max in
    let found = c.in-Some.ensures.lookup in
    let here = bound c.args.literal.var c.in-Some.latch.now found.3.0 in
    let same = ap (λ latch. latch.var) (found.3.1 c.in-Some.latch.now) in
    omega (arith, here, same, most, c.max-greatest.ensures.value)
