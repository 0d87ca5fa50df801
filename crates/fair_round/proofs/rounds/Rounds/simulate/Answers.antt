use Rattle.std.proofs.Common.{◌≡◌, sym, ap, ◌∙◌, subst}
use Rattle.std.specs.List.{All}
use Rattle.skeleton.specs.Finding.{Asking}
use Rattle.fair_round.specs.Pools.{IsRun}
use Rattle.fair_round.proofs.rounds.Rounds.simulate.Goals as goal

pub simulated-requires : goal.simulated-requires
simulated-requires c =
    let same : c.self.inside.query.circuit ≡ c.args.c.now = ap (λ (a : Asking). a.circuit) c.self.view_is ∙ c.requires in
    subst (λ k. All (IsRun k) c.self.inside.runs.items) same c.self.invariant.runs

pub invariant_of-self : goal.invariant_of-self
invariant_of-self c =
    let same : c.self.inside.query.circuit ≡ c.args.c.now = ap (λ (a : Asking). a.circuit) c.self.view_is ∙ c.requires in
    record {
      circuit = c.self.invariant.circuit;
      on = c.self.invariant.on;
      runs = subst (λ k. All (IsRun k) c.simulated.new.runs.items) (sym same) c.simulated.ensures.runs;
      avoid = c.self.invariant.avoid;
      search = c.self.invariant.search;
    }
