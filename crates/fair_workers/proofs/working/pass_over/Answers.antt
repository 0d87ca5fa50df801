use Rattle.std.proofs.Common.{sym, subst}
use Rattle.fair_workers.specs.Working.{searches_in, Turns}
use Rattle.fair_workers.proofs.Turned.{pass-turn, some-served}
use Rattle.fair_workers.proofs.working.pass_over.Goals as goal

pub after_skeleton-worker-requires : goal.after_skeleton-worker-requires
after_skeleton-worker-requires g c =
    some-served (g.L.SharedList.known c.args.shared.now) c.args.worker.now c.args.properties.now c.requires.properties c.requires.worker c.requires.phase

pub returns-clause-turns : goal.returns-clause-turns
returns-clause-turns g c =
    let k = g.L.SharedList.known c.args.shared.now in
    let w = c.args.worker.now in
    subst (λ p. Turns (searches_in w.phase) k w k (record w { phase = p })) (sym c.after_skeleton-worker.ensures)
    (pass-turn k w c.args.properties.now c.requires.properties c.requires.worker c.requires.phase c.requires.left)
