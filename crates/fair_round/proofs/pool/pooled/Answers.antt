use Rattle.std.proofs.Common.{rules, take, sym, subst, IfSome}
use Rattle.lasso_join.specs.Fitting.{IsStemTo}
use Rattle.skeleton.specs.Finding.{first_state}
use Rattle.fair_round.proofs.Counting.{conflicts-then}
use Rattle.fair_round.specs.Scopes.{entries_of}
use Rattle.fair_round.specs.Pools.{IsHit, IsReachedRun}
use Rattle.fair_round.proofs.Pools.{way-to-place}
use Rattle.fair_round.proofs.pool.pooled.Goals as goal

pub returns-in-Some-2-clause-begun : goal.returns-in-Some-2-clause-begun
returns-in-Some-2-clause-begun c =
    let k = c.args.scope.now.circuit.now in
    let view = entries_of c.args.scope.now in
    let run = c.as_slice-walked.result.now in
    let hit = c.in-Some-2.hit in
    let reached : IsReachedRun c.args.scope.now.circuit.now c.as_slice-walked.result.now = search rules in
    let is : IsHit c.args.scope.now.circuit.now c.args.scope.now.property (entries_of c.args.scope.now) c.as_slice-walked.result.now c.in-Some-2.hit =
    subst (λ o. IfSome o (IsHit c.args.scope.now.circuit.now c.args.scope.now.property (entries_of c.args.scope.now) c.as_slice-walked.result.now)) c.in-Some-2.is c.in_ok-hit.ensures.hit
    in
    record {
      allowed = is.begins.0;
      way = subst (λ w. IsStemTo k (first_state hit.skeleton) w) (sym c.in_ok-way.ensures)
          (subst (λ t. IsStemTo k t (take hit.at run)) (sym is.begins.1) (way-to-place k run hit.at is.inside reached));
    }

pub runs-preserved : goal.runs-preserved
runs-preserved c =
    let before = c.runs.invariant in
    record {
      runs = c.take_newest.ensures.runs;
      avoid = c.newest.ensures.avoid;
      query = c.newest.ensures.query;
      counted = conflicts-then c.args.meter.now c.runs.meter c.newest.new.meter before.counted c.newest.ensures.counted;
    }
