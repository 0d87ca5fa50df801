use Rattle.std.proofs.Common.{subst}
use Rattle.std.specs.Prelude.{IfSome, IfNone}
use Rattle.cdcl.specs.Searching.{AssumesAll, IsRefusedAt, IsHinted}
use Rattle.cdcl.proofs.SearchLaws.{not_assumed}
use Rattle.cdcl.proofs.WayLaws.{way_starts, refused_among, conflict_among}
use Rattle.cdcl.proofs.searching.search.Goals as goal

pub returns-in-Some-clause-found : goal.returns-in-Some-clause-found
returns-in-Some-clause-found c = record {
  among = conflict_among c.args.assumptions.now c.settle_base.new.trail.steps c.in_ok-traced.traced.clause c.in_ok-conflict.ensures.settled.flat c.in_ok-traced.ensures.assumed;
  hinted = subst (λ cs. IsHinted cs c.in_ok-traced.traced) c.clauses.ensures c.in_ok-traced.ensures.hints;
}

pub trace_literal-requires-clause-forced : goal.trace_literal-requires-clause-forced
trace_literal-requires-clause-forced c =
    let refused = subst (λ o. IfSome o (IsRefusedAt c.args.assumptions.now c.assume_all.new.trail.steps)) c.in-Some-2.is c.in_ok-literal.ensures.refused in
    not_assumed c.args.assumptions.now c.settle_base.new.trail.steps c.assume_all.new.trail.steps c.in-Some-2.literal c.requires.apart c.in_ok-conflict.ensures.settled.flat
    c.assume_all.ensures.steps refused.0

pub returns-in-Some-2-clause-found : goal.returns-in-Some-2-clause-found
returns-in-Some-2-clause-found c =
    let refused = subst (λ o. IfSome o (IsRefusedAt c.args.assumptions.now c.assume_all.new.trail.steps)) c.in-Some-2.is c.in_ok-literal.ensures.refused in
    record {
      among = refused_among c.args.assumptions.now c.settle_base.new.trail.steps c.assume_all.new.trail.steps c.in-Some-2.literal c.in_ok-traced-2.traced.clause
          c.in_ok-conflict.ensures.settled.flat c.assume_all.ensures.steps refused.0 c.in_ok-traced-2.ensures.assumed;
      hinted = subst (λ cs. IsHinted cs c.in_ok-traced-2.traced) c.clauses-in-Some-2.ensures c.in_ok-traced-2.ensures.hints;
    }

pub decide-requires-clause-way : goal.decide-requires-clause-way
decide-requires-clause-way c =
    way_starts c.args.log.now.clauses c.args.assumptions.now c.settle_base.new.trail.steps c.assume_all.new.trail.steps c.settle_base.ensures.trail.reasoned
    c.in_ok-conflict.ensures.settled.flat
    (subst (λ o. IfNone o (AssumesAll c.args.assumptions.now c.settle_base.new.trail.steps c.assume_all.new.trail.steps)) c.in_default-2.is c.in_ok-literal.ensures.assumes)
