use Rattle.command_lines.proofs.commands.exporting.item_of.Goals as goal

pub returns-in_err-entry-clause-none : goal.returns-in_err-entry-clause-none
returns-in_err-entry-clause-none c = rw c.from_residual.ensures (λ request h. c.in_err-entry.ensures.none request.entry h.entry_number)

pub returns-in_err-clause-clause-none : goal.returns-in_err-clause-clause-none
returns-in_err-clause-clause-none c = rw c.from_residual-in_err-clause.ensures (λ request h. c.in_err-clause.ensures.none request.clause h.clause_number)
