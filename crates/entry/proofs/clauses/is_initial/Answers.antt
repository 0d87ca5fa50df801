use Rattle.std.proofs.Common.{◌≡◌, ◌+◌, sym, ◌∙◌, arith}
use Rattle.entry.proofs.Latches.{initial-at}
use Rattle.entry.proofs.clauses.is_initial.Goals as goal

pub returns : goal.returns
returns c =
    let place : c.args.literal.var ≡ 0 + c.args.literal.var = omega arith in
    c.is_reset_at.ensures ∙ sym (initial-at 0 c.args.literal.var c.args.c.now.latches c.args.literal place)
