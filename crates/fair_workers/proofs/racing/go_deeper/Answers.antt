use Rattle.std.proofs.Common.{sym, subst}
use Rattle.fair_workers.specs.Working.{Turns}
use Rattle.fair_workers.proofs.LassoTurns.{deeper-turn}
use Rattle.fair_workers.proofs.racing.go_deeper.Goals as goal

pub returns-clause-turns : goal.returns-clause-turns
returns-clause-turns g c =
    let k = g.L.SharedList.known c.args.shared.now in
    let w = c.args.worker.now in
    subst (λ p. Turns 0 k w k (record w { phase = p })) (sym c.deeper-worker.ensures)
    (deeper-turn k w c.args.after c.requires.worker c.requires.behind)
