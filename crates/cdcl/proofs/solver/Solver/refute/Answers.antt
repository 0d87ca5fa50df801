use Rattle.std.proofs.Common.{ap, sym}
use Rattle.cdcl.specs.Solving.{Solving}
use Rattle.cdcl.proofs.solver.Solver.refute.Goals as goal
use Rattle.cdcl.proofs.CountingLaws.{uncounted_units, unlimited_units}
use Rattle.cdcl.proofs.ProgressLaws.{kept_searched, searched_bounded, counts_conflicts}

pub invariant_of-self : goal.invariant_of-self
invariant_of-self c = record {
  kept = kept_searched c.args.units.now c.self.inside.log c.search_refuted.new.log c.args.meter.now c.search_refuted.new.meter c.self.invariant.kept c.search_refuted.ensures.log c.search_refuted.ensures.searched;
  trail = c.search_refuted.ensures.trail;
}

pub returns-clause-bounded : goal.returns-clause-bounded
returns-clause-bounded c =
    searched_bounded c.args.units.now c.args.self.now c.self.inside.log c.search_refuted.new.log c.args.meter.now c.search_refuted.new.meter
    (sym (ap (λ (s : Solving). s.added) c.self.view_is)) (sym (ap (λ (s : Solving). s.learned) c.self.view_is)) c.self.invariant.kept
    (kept_searched c.args.units.now c.self.inside.log c.search_refuted.new.log c.args.meter.now c.search_refuted.new.meter c.self.invariant.kept c.search_refuted.ensures.log c.search_refuted.ensures.searched)
    c.search_refuted.ensures.searched

pub returns-clause-uncounted : goal.returns-clause-uncounted
returns-clause-uncounted c =
    uncounted_units c.args.units.now c.self.inside.log c.args.self.now.added c.args.self.now.learned (ap (λ (s : Solving). s.added) c.self.view_is)
    (ap (λ (s : Solving). s.learned) c.self.view_is) c.search_refuted.new.log c.search_refuted.ensures.rest

pub returns-clause-unlimited : goal.returns-clause-unlimited
returns-clause-unlimited c =
    unlimited_units c.args.units.now c.self.inside.log c.args.self.now.added c.args.self.now.learned (ap (λ (s : Solving). s.added) c.self.view_is)
    (ap (λ (s : Solving). s.learned) c.self.view_is) c.search_refuted.result c.search_refuted.ensures.limited

pub returns-clause-alone : goal.returns-clause-alone
returns-clause-alone c = counts_conflicts c.args.meter.now c.search_refuted.new.meter _ c.bound_conflicts.ensures c.search_refuted.ensures.searched.counted
