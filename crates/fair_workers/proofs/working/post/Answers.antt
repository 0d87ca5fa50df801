use Rattle.std.proofs.Common.{refl, sym, ◌∙◌, subst}
use Rattle.std.specs.Arc.{arc_value}
use Rattle.fair_workers.specs.declared.working.Phase.TheVariants.{Searches, Refused}
use Rattle.fair_workers.specs.Working.{searches_in, Turns}
use Rattle.fair_workers.proofs.Turned.{one-more-in, round-in, end-turn, may-post, post-turn, serves-one}
use Rattle.fair_workers.proofs.working.post.Goals.{in-Ok, in-Err}
use Rattle.fair_workers.proofs.working.post.Goals as goal

pub post-requires-clause-turns : goal.post-requires-clause-turns
post-requires-clause-turns g c = one-more-in (g.L.SharedList.known c.args.shared.now) c.args.worker.now Searches c.requires.worker c.requires.phase refl

pub post-requires-clause-may : goal.post-requires-clause-may
post-requires-clause-may g c =
    let e = arc_value c.args.entry in
    let k = g.L.SharedList.known c.args.shared.now in
    let w = c.args.worker.now in
    may-post w.property k e e.origin (serves-one k w c.requires.worker c.requires.phase) c.requires.entry.circuit c.requires.entry.closed
    c.requires.entry.used c.requires.entry.work

pub returns-clause-turns : goal.returns-clause-turns
returns-clause-turns g c =
    let k = g.L.SharedList.known c.args.shared.now in
    let l = g.L.SharedList.known c.post.new.self in
    let w = c.args.worker.now in
    elim c.match-post.branch [
      | in-Ok b ↦
          subst (λ p. Turns (searches_in w.phase) k w l (record w { phase = p })) (sym (b.worker-is ∙ b.after_post-worker.ensures))
          (post-turn k l w b.in-Ok.posted c.requires.worker c.requires.phase b.in-Ok.ensures.ok)
      | in-Err b ↦
          subst (λ p. Turns (searches_in w.phase) k w l (record w { phase = p })) (sym b.worker-is)
          (end-turn k l w Refused c.requires.worker b.in-Err.ensures.err (round-in w.phase Searches c.requires.phase refl) refl refl tt)
    ]
