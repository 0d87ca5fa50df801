use Rattle.std.proofs.Common.{◌+◌, sym, subst}
use Rattle.std.specs.Prelude.{Option, OnOk}
use Rattle.lasso_bmc.specs.declared.deepening.Deepening.{Deepening}
use Rattle.fair_workers.specs.Working.{HasSolver}
use Rattle.fair_workers.proofs.LassoTurns.{room-for, none-for, searched-more, up-to-more}
use Rattle.fair_workers.proofs.lasso_search.deepened.Goals as goal

pub deepen-answer-requires-clause-room : goal.deepen-answer-requires-clause-room
deepen-answer-requires-clause-room c =
    room-for c.args.c.now c.args.j c.args.search.now c.in_ok-solver.solver c.requires.search c.requires.more c.in_ok-solver.ensures

pub deepen-answer-requires-clause-none : goal.deepen-answer-requires-clause-none
deepen-answer-requires-clause-none c = none-for c.args.c.now c.args.j c.args.search.now c.in_ok-solver.solver c.requires.search c.in_ok-solver.ensures

pub told-requires-clause-searched : goal.told-requires-clause-searched
told-requires-clause-searched c =
    searched-more c.deepen-answer.result c.args.c.now c.args.j c.args.search.now.done c.in_ok-solver.solver c.in_ok-solver.ensures c.deepen-answer.ensures.searched

pub told-requires-clause-solver : goal.told-requires-clause-solver
told-requires-clause-solver c =
    subst (λ (o : Option Deepening). OnOk c.deepen-answer.result (HasSolver c.args.c.now c.args.j (c.args.search.now.done + 1) o)) (sym c.replace.ensures.after)
    (up-to-more c.deepen-answer.result c.args.c.now c.args.j c.args.search.now.done c.in_ok-solver.solver c.deepen-answer.new.d c.in_ok-solver.ensures
    c.deepen-answer.ensures.grown c.deepen-answer.ensures.positions)
