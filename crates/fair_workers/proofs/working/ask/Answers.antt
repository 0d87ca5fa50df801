use Rattle.std.proofs.Common.{refl, sym, subst}
use Rattle.fair_workers.specs.declared.working.Phase.TheVariants.{Asks}
use Rattle.fair_workers.specs.Working.{Turns}
use Rattle.fair_workers.proofs.Turned.{one-more-in, ask-turn}
use Rattle.fair_workers.proofs.working.ask.Goals as goal

pub next_open-told-requires-clause-turns : goal.next_open-told-requires-clause-turns
next_open-told-requires-clause-turns g c =
    one-more-in (g.L.SharedList.known c.args.shared.now) c.args.worker.now Asks c.requires.worker c.requires.phase refl

pub returns-clause-turns : goal.returns-clause-turns
returns-clause-turns g c =
    let k = g.L.SharedList.known c.args.shared.now in
    let l = g.L.SharedList.known c.next_open-told.new.self in
    let w = c.args.worker.now in
    subst (λ v. Turns 0 k w l v) (sym c.serve_told.ensures)
    (ask-turn k l w c.next_open-told.result c.requires.worker c.requires.phase c.next_open-told.ensures.asked)
