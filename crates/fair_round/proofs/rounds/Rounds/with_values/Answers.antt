use Rattle.std.proofs.Common.{IfSome, ◌≡◌, refl, sym, ap, ◌∙◌, subst}
use Rattle.std.specs.List.{All}
use Rattle.entry.specs.CheckedEntries.{viewed, GoesOnFrom}
use Rattle.skeleton.specs.Finding.{Asking}
use Rattle.fair_round.specs.Scopes.{asking_of_scope, entries_of}
use Rattle.fair_round.specs.Rounds.{asking_of}
use Rattle.fair_round.specs.Pools.{IsRun}
use Rattle.fair_round.specs.Stems.{IsFit}
use Rattle.fair_round.proofs.Kept.{avoid-as}
use Rattle.fair_round.proofs.rounds.Rounds.with_values.Goals as goal

pub valued-requires-clause-query : goal.valued-requires-clause-query
valued-requires-clause-query c =
    let e : asking_of c.self.inside ≡ asking_of_scope c.args.scope.now = c.self.view_is ∙ c.requires.seen in
    record {
      circuit = ap (λ (a : Asking). a.circuit) e;
      property = ap (λ (a : Asking). a.property) e;
      on = subst (GoesOnFrom c.self.inside.query.seen) (ap (λ (a : Asking). a.seen) e) c.self.invariant.on;
    }

pub invariant_of-self : goal.invariant_of-self
invariant_of-self c =
    let q = c.valued.ensures.query in
    let e : asking_of c.self.inside ≡ asking_of_scope c.args.scope.now = c.self.view_is ∙ c.requires.seen in
    let same : viewed c.self.inside.seen ≡ entries_of c.args.scope.now = ap (λ (a : Asking). a.seen) e in
    let alike : c.self.inside.query.circuit ≡ c.valued.new.query.circuit = ap (λ (a : Asking). a.circuit) e ∙ sym q.circuit in
    let property : c.self.inside.query.property ≡ c.valued.new.query.property = ap (λ (a : Asking). a.property) e ∙ sym q.property in
    record {
      circuit = c.self.invariant.circuit ∙ alike;
      on = subst (λ xs. GoesOnFrom c.valued.new.query.seen xs) (sym same) q.on;
      runs = subst (λ k. All (IsRun k) c.self.inside.runs.items) alike c.self.invariant.runs;
      avoid =
          avoid-as c.self.inside.query.circuit c.valued.new.query.circuit c.self.inside.query.property c.valued.new.query.property
          (viewed c.self.inside.seen) (viewed c.self.inside.seen) c.self.inside.avoid alike property refl c.self.invariant.avoid;
      search = subst (λ k. IfSome c.self.inside.search (IsFit k (viewed c.self.inside.seen))) alike c.self.invariant.search;
    }
