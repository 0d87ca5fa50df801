use Rattle.std.proofs.Common.{refl, sym, subst}
use Rattle.fair_workers.specs.declared.working.Phase.TheVariants.{Looks, Refused}
use Rattle.fair_workers.specs.Working.{searches_in, Turns}
use Rattle.fair_workers.proofs.Turned.{one-more-in, round-in, end-turn, look-turn}
use Rattle.fair_workers.proofs.working.look.Goals.{in-Ok, in-Err}
use Rattle.fair_workers.proofs.working.look.Goals as goal

pub look-requires-clause-turns : goal.look-requires-clause-turns
look-requires-clause-turns g c = one-more-in (g.L.SharedList.known c.args.shared.now) c.args.worker.now Looks c.requires.worker c.requires.phase refl

pub returns-clause-turns : goal.returns-clause-turns
returns-clause-turns g c =
    let k = g.L.SharedList.known c.args.shared.now in
    let l = g.L.SharedList.known c.look.new.self in
    let w = c.args.worker.now in
    elim c.match-look.branch [
      | in-Ok b ↦
          subst (λ p. Turns 0 k w l (record w { phase = p })) (sym b.worker-is) (look-turn k l w c.requires.worker c.requires.phase b.in-Ok.ensures.ok)
      | in-Err b ↦
          subst (λ p. Turns 0 k w l (record w { phase = p })) (sym b.worker-is)
          (subst (λ p. Turns (searches_in p) k w l (record w { phase = Refused })) c.requires.phase
          (end-turn k l w Refused c.requires.worker b.in-Err.ensures.err (round-in w.phase Looks c.requires.phase refl) refl refl tt))
    ]
