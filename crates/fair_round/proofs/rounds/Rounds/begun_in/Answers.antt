use Rattle.std.proofs.Common.{IfSome, ◌≡◌, sym, ap, ◌∙◌, subst}
use Rattle.std.specs.List.{All}
use Rattle.entry.specs.CheckedEntries.{viewed, GoesOnFrom}
use Rattle.skeleton.specs.Finding.{Asking, BeginsNone}
use Rattle.fair_round.specs.Scopes.{asking_of_scope, entries_of}
use Rattle.fair_round.specs.Rounds.{asking_of}
use Rattle.fair_round.specs.Pools.{IsRun}
use Rattle.fair_round.specs.Stems.{IsFit}
use Rattle.fair_round.proofs.Kept.{avoid-as}
use Rattle.fair_round.proofs.rounds.Rounds.begun_in.Goals as goal

pub tried-requires-clause-query : goal.tried-requires-clause-query
tried-requires-clause-query c =
    let e : asking_of c.self.inside ≡ asking_of_scope c.args.scope.now = c.self.view_is ∙ c.requires.seen in
    record {
      circuit = ap (λ (a : Asking). a.circuit) e;
      property = ap (λ (a : Asking). a.property) e;
      on = subst (GoesOnFrom c.self.inside.query.seen) (ap (λ (a : Asking). a.seen) e) c.self.invariant.on;
    }

pub tried-requires-clause-avoid : goal.tried-requires-clause-avoid
tried-requires-clause-avoid c =
    let e : asking_of c.self.inside ≡ asking_of_scope c.args.scope.now = c.self.view_is ∙ c.requires.seen in
    subst (λ (a : Asking). All (BeginsNone a.circuit a.property a.seen) c.self.inside.avoid) e c.self.invariant.avoid

pub invariant_of-self : goal.invariant_of-self
invariant_of-self c =
    let scope = c.args.scope.now in
    let q = c.tried.ensures.query in
    let e : asking_of c.self.inside ≡ asking_of_scope c.args.scope.now = c.self.view_is ∙ c.requires.seen in
    let same : viewed c.self.inside.seen ≡ entries_of c.args.scope.now = ap (λ (a : Asking). a.seen) e in
    let alike : c.self.inside.query.circuit ≡ c.tried.new.query.circuit = ap (λ (a : Asking). a.circuit) e ∙ sym c.tried.ensures.query.circuit in
    record {
      circuit = c.self.invariant.circuit ∙ alike;
      on = subst (λ xs. GoesOnFrom c.tried.new.query.seen xs) (sym same) q.on;
      runs = subst (λ k. All (IsRun k) c.self.inside.runs.items) alike c.self.invariant.runs;
      avoid =
          avoid-as scope.circuit.now c.tried.new.query.circuit scope.property c.tried.new.query.property (entries_of scope) (viewed c.self.inside.seen)
          c.tried.new.avoid (sym q.circuit) (sym q.property) (sym same) c.tried.ensures.avoid;
      search = subst (λ k. IfSome c.self.inside.search (IsFit k (viewed c.self.inside.seen))) alike c.self.invariant.search;
    }
