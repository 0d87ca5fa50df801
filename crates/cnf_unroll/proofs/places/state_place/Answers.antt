use Rattle.std.proofs.Common.{◌<◌, ◌^◌, subst, sym, arith}
use Rattle.std.specs.List.{All}
use Rattle.cnf_unroll.proofs.Bounds.{latches_bound}
use Rattle.cnf_unroll.proofs.places.state_place.Goals as goal

pub invariant_of-result : goal.invariant_of-result
invariant_of-result c =
    let bound =
    subst (λ latches. All (λ latch. latch.var < 2 ^ 32) latches) (sym c.latches.ensures)
    (latches_bound c.args.c.now c.max-limits.ensures.checked c.max-limits.ensures.limits)
    in
    (omega (arith, c.requires), bound)
