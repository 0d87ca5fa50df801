use Rattle.std.proofs.Common.{◌≡◌, IfOk, IfSome, sym, ap, ◌∙◌, subst}
use Rattle.std.specs.Arc.{arc_value}
use Rattle.entry.specs.CheckedEntries.{viewed}
use Rattle.skeleton.specs.Finding.{Asking}
use Rattle.fair_round.specs.Stems.{IsFit}
use Rattle.fair_round.proofs.Kept.{fit-as, made-fit}
use Rattle.fair_round.proofs.rounds.Rounds.take_search.Goals as goal
use Rattle.fair_round.proofs.rounds.Rounds.take_search.Goals.{in-Some, in-None}

pub returns-clause-fit : goal.returns-clause-fit
returns-clause-fit c =
    let s = c.self.inside in
    let own : c.self.inside.query.circuit ≡ c.args.c.now = ap (λ (a : Asking). a.circuit) c.self.view_is ∙ c.requires in
    let seen : viewed c.self.inside.seen ≡ c.args.self.now.seen = ap (λ (a : Asking). a.seen) c.self.view_is in
    elim c.match-take.branch [
      | in-Some w ↦
          subst (λ r. IfOk r (IsFit c.args.c.now c.args.self.now.seen)) (sym w.result-is)
          (fit-as s.query.circuit c.args.c.now (viewed s.seen) c.args.self.now.seen w.in-Some.search own seen
          (subst (λ o. IfSome o (IsFit s.query.circuit (viewed s.seen))) (sym c.take.ensures.value ∙ w.in-Some.is) c.self.invariant.search))
      | in-None w ↦
          subst (λ r. IfOk r (IsFit c.args.c.now c.args.self.now.seen)) (sym w.result-is)
          (made-fit (arc_value s.circuit) c.args.c.now c.args.self.now.seen w.new_search.result (c.self.invariant.circuit ∙ own) w.new_search.ensures)
    ]
