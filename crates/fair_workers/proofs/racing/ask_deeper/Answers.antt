use Rattle.std.proofs.Common.{refl, sym, subst}
use Rattle.fair_workers.specs.declared.working.Phase.TheVariants.{AsksDeeper}
use Rattle.fair_workers.specs.Working.{Turns}
use Rattle.fair_workers.proofs.Turned.{one-more-in}
use Rattle.fair_workers.proofs.LassoTurns.{told-turn}
use Rattle.fair_workers.proofs.racing.ask_deeper.Goals as goal

pub next_open-told-requires-clause-turns : goal.next_open-told-requires-clause-turns
next_open-told-requires-clause-turns g c =
    one-more-in (g.L.SharedList.known c.args.shared.now) c.args.worker.now (AsksDeeper c.args.after) c.requires.worker c.requires.phase refl

pub returns-clause-turns : goal.returns-clause-turns
returns-clause-turns g c =
    let k = g.L.SharedList.known c.args.shared.now in
    let l = g.L.SharedList.known c.next_open-told.new.self in
    let w = c.args.worker.now in
    subst (λ p. Turns 0 k w l (record w { phase = p })) (sym c.after_told-worker.ensures)
    (told-turn k l w c.args.after c.next_open-told.result c.requires.worker c.requires.phase c.next_open-told.ensures.asked)
