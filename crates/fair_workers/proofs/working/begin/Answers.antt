use Rattle.std.proofs.Common.{sym, ◌∙◌}
use Rattle.std.proofs.lemmas.Bool.{ltb-true, ltb-false}
use Rattle.fair_workers.specs.Runs.{round_workers}
use Rattle.fair_workers.proofs.WorkerKinds.{some-lassos}
use Rattle.fair_workers.proofs.working.begin.Goals as goal

pub round_worker-requires : goal.round_worker-requires
round_worker-requires c = ltb-true c.args.number (round_workers c.args.limits) (sym c.is_round_worker.ensures ∙ c.if-is_round_worker.true)

pub lasso_worker-requires-clause-number : goal.lasso_worker-requires-clause-number
lasso_worker-requires-clause-number c =
    ltb-false c.args.number (round_workers c.args.limits) (sym c.is_round_worker.ensures ∙ c.if-is_round_worker.false)

pub lasso_worker-requires-clause-one : goal.lasso_worker-requires-clause-one
lasso_worker-requires-clause-one c =
    let l = c.args.limits in
    c.requires.one (some-lassos l.workers l.lassos c.args.number c.requires.inside
    (ltb-false c.args.number (round_workers l) (sym c.is_round_worker.ensures ∙ c.if-is_round_worker.false)))
