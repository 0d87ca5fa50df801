use Rattle.std.proofs.Common.{◌++◌, take, ap, ◌∙◌}
use Rattle.ic3.proofs.Growing.{grows_take}
use Rattle.ic3.proofs.stepping_clauses.add_all.Goals as goal

pub returns-in_err-clone-clause-grows : goal.returns-in_err-clone-clause-grows
returns-in_err-clone-clause-grows c =
    grows_take c.args.clauses.now.clauses c.args.solver.now.added c.loop-clause.solver.added c.loop-clause.clause-index
    (c.loop-clause.invariant ∙ ap (λ xs. c.args.solver.now.added ++ take c.loop-clause.clause-index xs) c.as_slice-clause-items.ensures)

pub returns-in_err-add_sized-clause-grows : goal.returns-in_err-add_sized-clause-grows
returns-in_err-add_sized-clause-grows c =
    grows_take c.args.clauses.now.clauses c.args.solver.now.added c.add_sized.new.self.added c.loop-clause.clause-index
    (ap (λ s. s.added) c.in_err-add_sized.ensures.err
    ∙ (c.loop-clause.invariant ∙ ap (λ xs. c.args.solver.now.added ++ take c.loop-clause.clause-index xs) c.as_slice-clause-items.ensures))
