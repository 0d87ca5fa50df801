use Rattle.std.proofs.Common.{IfSome, ◌≡◌, sym, ap, ◌∙◌, subst}
use Rattle.std.specs.List.{All}
use Rattle.entry.specs.CheckedEntries.{viewed, GoesOnFrom}
use Rattle.skeleton.specs.Finding.{Asking, BeginsNone}
use Rattle.fair_round.specs.Scopes.{asking_of_scope, entries_of}
use Rattle.fair_round.specs.Rounds.{asking_of}
use Rattle.fair_round.specs.Pools.{IsRun}
use Rattle.fair_round.specs.Stems.{IsFit}
use Rattle.fair_round.proofs.Kept.{avoid-as}
use Rattle.fair_round.proofs.rounds.Rounds.pooled.Goals as goal

pub pooled-requires-clause-query : goal.pooled-requires-clause-query
pooled-requires-clause-query c =
    let e : asking_of c.self.inside ≡ asking_of_scope c.args.scope.now = c.self.view_is ∙ c.requires.seen in
    record {
      circuit = ap (λ (a : Asking). a.circuit) e;
      property = ap (λ (a : Asking). a.property) e;
      on = subst (GoesOnFrom c.self.inside.query.seen) (ap (λ (a : Asking). a.seen) e) c.self.invariant.on;
    }

pub pooled-requires-clause-runs : goal.pooled-requires-clause-runs
pooled-requires-clause-runs c =
    let e : asking_of c.self.inside ≡ asking_of_scope c.args.scope.now = c.self.view_is ∙ c.requires.seen in
    subst (λ (a : Asking). All (IsRun a.circuit) c.self.inside.runs.items) e c.self.invariant.runs

pub pooled-requires-clause-avoid : goal.pooled-requires-clause-avoid
pooled-requires-clause-avoid c =
    let e : asking_of c.self.inside ≡ asking_of_scope c.args.scope.now = c.self.view_is ∙ c.requires.seen in
    subst (λ (a : Asking). All (BeginsNone a.circuit a.property a.seen) c.self.inside.avoid) e c.self.invariant.avoid

pub invariant_of-self : goal.invariant_of-self
invariant_of-self c =
    let scope = c.args.scope.now in
    let q = c.pooled.ensures.query in
    let e : asking_of c.self.inside ≡ asking_of_scope c.args.scope.now = c.self.view_is ∙ c.requires.seen in
    let same : viewed c.self.inside.seen ≡ entries_of c.args.scope.now = ap (λ (a : Asking). a.seen) e in
    let alike : c.self.inside.query.circuit ≡ c.pooled.new.query.circuit = ap (λ (a : Asking). a.circuit) e ∙ sym c.pooled.ensures.query.circuit in
    record {
      circuit = c.self.invariant.circuit ∙ alike;
      on = subst (λ xs. GoesOnFrom c.pooled.new.query.seen xs) (sym same) q.on;
      runs = subst (λ k. All (IsRun k) c.pooled.new.runs.items) (sym q.circuit) c.pooled.ensures.runs;
      avoid =
          avoid-as scope.circuit.now c.pooled.new.query.circuit scope.property c.pooled.new.query.property (entries_of scope) (viewed c.self.inside.seen)
          c.pooled.new.avoid (sym q.circuit) (sym q.property) (sym same) c.pooled.ensures.avoid;
      search = subst (λ k. IfSome c.self.inside.search (IsFit k (viewed c.self.inside.seen))) alike c.self.invariant.search;
    }
