use Rattle.std.proofs.Common.{ap, sym}
use Rattle.cdcl.specs.Solving.{Solving}
use Rattle.cdcl.proofs.solver.Solver.solve.Goals as goal
use Rattle.cdcl.proofs.CountingLaws.{uncounted, unlimited}
use Rattle.cdcl.proofs.ProgressLaws.{kept_searched, searched_bounded, counts_conflicts}

pub invariant_of-self : goal.invariant_of-self
invariant_of-self c = record {
  kept = kept_searched c.args.assumptions.now c.self.inside.log c.search_answer.new.log c.args.meter.now c.search_answer.new.meter c.self.invariant.kept c.search_answer.ensures.log c.search_answer.ensures.searched;
  trail = c.search_answer.ensures.trail;
}

pub returns-clause-bounded : goal.returns-clause-bounded
returns-clause-bounded c =
    searched_bounded c.args.assumptions.now c.args.self.now c.self.inside.log c.search_answer.new.log c.args.meter.now c.search_answer.new.meter
    (sym (ap (λ (s : Solving). s.added) c.self.view_is)) (sym (ap (λ (s : Solving). s.learned) c.self.view_is)) c.self.invariant.kept
    (kept_searched c.args.assumptions.now c.self.inside.log c.search_answer.new.log c.args.meter.now c.search_answer.new.meter c.self.invariant.kept c.search_answer.ensures.log c.search_answer.ensures.searched)
    c.search_answer.ensures.searched

pub returns-clause-uncounted : goal.returns-clause-uncounted
returns-clause-uncounted c =
    uncounted c.args.assumptions.now c.self.inside.log c.args.self.now.added c.args.self.now.learned (ap (λ (s : Solving). s.added) c.self.view_is)
    (ap (λ (s : Solving). s.learned) c.self.view_is) c.search_answer.new.log c.search_answer.ensures.rest

pub returns-clause-unlimited : goal.returns-clause-unlimited
returns-clause-unlimited c =
    unlimited c.args.assumptions.now c.self.inside.log c.args.self.now.added c.args.self.now.learned (ap (λ (s : Solving). s.added) c.self.view_is)
    (ap (λ (s : Solving). s.learned) c.self.view_is) c.search_answer.result c.search_answer.ensures.limited

pub returns-clause-alone : goal.returns-clause-alone
returns-clause-alone c = counts_conflicts c.args.meter.now c.search_answer.new.meter _ c.bound_conflicts.ensures c.search_answer.ensures.searched.counted
