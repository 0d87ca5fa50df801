use Rattle.std.proofs.Common.{length, refl, sym}
use Rattle.std.proofs.lemmas.Option.{slice_get_within}
use Rattle.cdcl_trail.proofs.LoopLaws.{smaller_here}
use Rattle.cdcl_trail.proofs.TakeLaws.{taking_start, taking_next, taking_extends, extends_same}
use Rattle.cdcl_trail.proofs.trail.Trail.take_all.Goals as goal

pub takes-init : goal.takes-init
takes-init c = taking_start c.args.self.now.steps c.args.clauses.now c.args.self.now.taken c.count_taken-place.result c.requires c.count_taken-place.ensures

pub takes-preserved : goal.takes-preserved
takes-preserved c =
    taking_next c.args.self.now.steps c.args.self.now.taken c.args.clauses.now c.takes.self.steps c.take_one.new.self.steps c.takes.self.taken c.take_one.new.self.taken c.takes.place c.in-Some.clause.now
    c.takes.invariant (sym c.in-Some.ensures.value) c.take_one.ensures.steps c.in_ok-take_one.ensures.ok

pub returns-in_default-clause-extends : goal.returns-in_default-clause-extends
returns-in_default-clause-extends c = taking_extends c.args.clauses.now c.takes.self.taken c.takes.self.taken c.takes.place c.takes.invariant.fronts refl

pub returns-in_err-take_one-clause-extends : goal.returns-in_err-take_one-clause-extends
returns-in_err-take_one-clause-extends c =
    taking_extends c.args.clauses.now c.takes.self.taken c.take_one.new.self.taken c.takes.place c.takes.invariant.fronts c.in_err-take_one.ensures.err

pub returns-in_err-take_one-clause-grows : goal.returns-in_err-take_one-clause-grows
returns-in_err-take_one-clause-grows c =
    extends_same c.args.self.now.taken c.takes.self.taken c.take_one.new.self.taken c.takes.invariant.grown c.in_err-take_one.ensures.err

pub takes-smaller : goal.takes-smaller
takes-smaller c =
    smaller_here (length c.args.clauses.now) (length c.args.clauses.now) c.takes.place refl
    (slice_get_within c.args.clauses.now c.takes.place c.in-Some.clause.now (sym c.in-Some.ensures.value))
