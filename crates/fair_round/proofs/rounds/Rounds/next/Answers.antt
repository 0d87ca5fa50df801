use Rattle.std.proofs.Common.{IfSome, ◌≡◌, sym, refl, ap, ◌∙◌, subst}
use Rattle.std.specs.List.{All}
use Rattle.entry.specs.CheckedEntries.{viewed, GoesOnFrom}
use Rattle.skeleton.specs.Finding.{Asking}
use Rattle.fair_round.specs.Pools.{IsRun}
use Rattle.fair_round.specs.Stems.{IsFit}
use Rattle.fair_round.proofs.Kept.{avoid-as}
use Rattle.fair_round.proofs.rounds.Rounds.next.Goals as goal

pub invariant_of-self : goal.invariant_of-self
invariant_of-self c =
    let s = c.self.inside in
    let same : viewed c.self.inside.seen ≡ viewed c.args.view.now = ap (λ (a : Asking). a.seen) c.self.view_is ∙ c.in_ok-catch_up.ensures.caught in
    record {
      circuit = c.self.invariant.circuit ∙ sym c.found.ensures.circuit;
      on = subst (λ xs. GoesOnFrom c.found.new.query.seen xs) (sym same) c.found.ensures.seen;
      runs = subst (λ k. All (IsRun k) c.self.inside.runs.items) (sym c.found.ensures.circuit) c.self.invariant.runs;
      avoid = avoid-as s.query.circuit c.found.new.query.circuit s.query.property c.found.new.query.property (viewed s.seen) (viewed s.seen) s.avoid
          (sym c.found.ensures.circuit) (sym c.found.ensures.property) refl c.self.invariant.avoid;
      search = subst (λ k. IfSome c.self.inside.search (IsFit k (viewed c.self.inside.seen))) (sym c.found.ensures.circuit) c.self.invariant.search;
    }
