use Rattle.lasso_bmc.proofs.Telling.{shortest_within, told_within}
use Rattle.lasso_bmc.proofs.deepening.judged.Goals as goal

pub returns-in-Ok : goal.returns-in-Ok
returns-in-Ok c =
    let is = c.in-Ok.ensures in
    told_within c.args.c.now c.args.j c.args.last c.in-Ok.lasso c.if_within.result
    (λ within. shortest_within c.args.c.now c.args.j c.args.last c.in_ok-stimulus.stimulus c.in-Ok.lasso c.requires.none within is.found is.start is.inputs)
    c.if_within.ensures.some
