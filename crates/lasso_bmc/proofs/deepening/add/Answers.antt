use Rattle.lasso_bmc.proofs.Parts.{added_more}
use Rattle.lasso_bmc.proofs.deepening.add.Goals as goal

pub returns-clause-added : goal.returns-clause-added
returns-clause-added c = λ v.
    added_more v c.args.d.now.solver.added c.add_all.new.self.added c.in_ok-taken.taken.items c.args.d.now.rest.items c.part.new.rest.items
    c.args.clauses.items c.in_ok-add_all.ensures.added (c.in_ok-taken.ensures v)
