use Rattle.std.proofs.Common.{sym, ◌∙◌, subst}
use Rattle.fair_workers.specs.Working.{HasSolver}
use Rattle.fair_workers.proofs.LassoTurns.{made-solver}
use Rattle.fair_workers.proofs.lasso_search.taken.Goals as goal

pub returns-in-Some : goal.returns-in-Some
returns-in-Some c =
    subst (λ o. HasSolver c.args._c.now c.args._j c.args._done o) (sym c.take.ensures.value ∙ c.in-Some.is) c.requires

pub returns-in-None : goal.returns-in-None
returns-in-None c =
    made-solver c.new.result c.args._c.now c.args._j c.args._done
    (subst (λ o. HasSolver c.args._c.now c.args._j c.args._done o) (sym c.take.ensures.value ∙ c.in-None.is) c.requires)
    c.new.ensures.grown c.new.ensures.positions
