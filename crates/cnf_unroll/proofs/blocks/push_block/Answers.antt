use Rattle.std.proofs.Common.{◌^◌, ◌<◌, subst, sym}
use Rattle.std.specs.List.{All}
use Rattle.cnf_unroll.proofs.Bounds.{gates_bound, latches_bound}
use Rattle.cnf_unroll.proofs.blocks.push_block.Goals as goal

pub push_gates-requires-clause-vars : goal.push_gates-requires-clause-vars
push_gates-requires-clause-vars c =
    subst (λ gates. All (λ gate. gate.var < 2 ^ 32) gates) (sym c.gates.ensures)
    (gates_bound c.args.c.now c.max-limits.ensures.checked c.max-limits.ensures.limits)

pub push_latches-requires-clause-vars : goal.push_latches-requires-clause-vars
push_latches-requires-clause-vars c = latches_bound c.args.c.now c.max-limits.ensures.checked c.max-limits.ensures.limits
