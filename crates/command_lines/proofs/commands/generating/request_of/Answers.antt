use Rattle.command_lines.proofs.commands.generating.request_of.Goals as goal

pub returns-in_err-seed-clause-none : goal.returns-in_err-seed-clause-none
returns-in_err-seed-clause-none c = rw c.from_residual-in_err-seed.ensures (λ request h. c.in_err-seed.ensures.none request.seed h.seed_number)

pub returns-in_err-size-clause-none : goal.returns-in_err-size-clause-none
returns-in_err-size-clause-none c = rw c.from_residual-in_err-size.ensures (λ request h. c.in_err-size.ensures.none request.size h.size_number)
