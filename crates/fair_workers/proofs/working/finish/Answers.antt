use Rattle.std.proofs.Common.{refl, sym, subst}
use Rattle.fair_workers.specs.declared.working.Phase.TheVariants.{Searches}
use Rattle.fair_workers.specs.Working.{searches_in, Turns}
use Rattle.fair_workers.proofs.Turned.{one-more-in, true-of, finish-turn, serves-one}
use Rattle.fair_workers.proofs.working.finish.Goals as goal

pub finish-requires-clause-turns : goal.finish-requires-clause-turns
finish-requires-clause-turns g c = one-more-in (g.L.SharedList.known c.args.shared.now) c.args.worker.now Searches c.requires.worker c.requires.phase refl

pub finish-requires-clause-served : goal.finish-requires-clause-served
finish-requires-clause-served g c = serves-one (g.L.SharedList.known c.args.shared.now) c.args.worker.now c.requires.worker c.requires.phase

pub finish-requires-clause-outcome : goal.finish-requires-clause-outcome
finish-requires-clause-outcome g c =
    let k = g.L.SharedList.known c.args.shared.now in
    true-of k.circuit k.list c.args.worker.now.property c.args.outcome c.requires.outcome

pub returns-clause-turns : goal.returns-clause-turns
returns-clause-turns g c =
    let k = g.L.SharedList.known c.args.shared.now in
    let l = g.L.SharedList.known c.finish.new.self in
    let w = c.args.worker.now in
    subst (λ p. Turns (searches_in w.phase) k w l (record w { phase = p })) (sym c.after_finish-worker.ensures)
    (finish-turn k l w c.args.properties.now c.requires.properties c.requires.worker c.requires.phase c.finish.ensures.finished)
