use Rattle.std.proofs.Common.{subst, ap, ◌∙◌}
use Rattle.edge.proofs.Ends.{counts_on}
use Rattle.ic3_semantics.specs.Stepping.{Stepping}
use Rattle.ic3_loops.specs.Single.{IsSingle}
use Rattle.ic3_loops.proofs.one_literal.apart.Goals as goal

pub held-requires : goal.held-requires
held-requires g c = ap (λ (st : Stepping). st.lemmas) c.loop-literal.invariant.same ∙ c.requires

pub loop-literal-preserved : goal.loop-literal-preserved
loop-literal-preserved g c = record {
  same = c.in_ok-clause.ensures.same ∙ c.loop-literal.invariant.same;
  counted = counts_on c.args.meter.now c.loop-literal.meter c.held.new.meter c.loop-literal.invariant.counted c.in_ok-clause.ensures.counted;
}

pub returns-in-Some-clause-single : goal.returns-in-Some-clause-single
returns-in-Some-clause-single g c =
    subst (λ (st : Stepping). IsSingle st.question c.args.starts.now c.args.to.now c.in-Some.clause) c.loop-literal.invariant.same
    (rw c.in-Some.is at c.in_ok-clause.ensures.single)

pub returns-in-Some-clause-counted : goal.returns-in-Some-clause-counted
returns-in-Some-clause-counted g c =
    counts_on c.args.meter.now c.loop-literal.meter c.held.new.meter c.loop-literal.invariant.counted c.in_ok-clause.ensures.counted

pub returns-in_err-clause-clause-counted : goal.returns-in_err-clause-clause-counted
returns-in_err-clause-clause-counted g c =
    counts_on c.args.meter.now c.loop-literal.meter c.held.new.meter c.loop-literal.invariant.counted c.held.ensures.counted
