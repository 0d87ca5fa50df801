use Rattle.std.proofs.Common.{length, ap, sym, subst, ◌∙◌}
use Rattle.std.proofs.lemmas.Option.{slice_get_within}
use Rattle.packed_literals.specs.Lists.{list_for}
use Rattle.cdcl_trail.specs.Storing.{held}
use Rattle.cdcl_trail.specs.Visiting.{VisitSays}
use Rattle.cdcl_trail.proofs.GuardLaws.{false_front}
use Rattle.cdcl_trail.proofs.LoopLaws.{visiting_start, visiting_stands, visiting_left, visiting_end, goes, front_of, conflict_held, smaller_here, smaller_left}
use Rattle.cdcl_trail.proofs.propagation.visit_all.Goals as goal

pub entries-init : goal.entries-init
entries-init c = visiting_start c.args.watching.now c.args.assignment.now.steps c.args.falsified c.requires.stored c.requires.covers

pub returns-in_default-clause-none : goal.returns-in_default-clause-none
returns-in_default-clause-none c = λ _.
    visiting_end c.args.watching.now c.entries.watching c.args.assignment.now.steps c.entries.assignment.steps c.args.falsified c.entries.place c.entries.invariant
    (sym c.get.ensures ∙ c.in_default.is)

pub visit-requires-clause-falsified : goal.visit-requires-clause-falsified
visit-requires-clause-falsified c =
    false_front c.args.assignment.now.steps c.entries.assignment.steps c.args.falsified
    (front_of (held c.args.watching.now) c.args.assignment.now.steps c.entries.assignment.steps c.entries.invariant.steps) c.requires.falsified

pub returns-in_err-visit-clause-steps : goal.returns-in_err-visit-clause-steps
returns-in_err-visit-clause-steps c =
    (goes c.args.watching.now c.entries.watching c.visit.new.watching c.args.assignment.now.steps c.entries.assignment.steps c.visit.new.assignment.steps
    c.args.falsified c.entries.place c.entries.invariant c.visit.ensures.visited).steps

pub returns-in_err-visit-clause-keeps : goal.returns-in_err-visit-clause-keeps
returns-in_err-visit-clause-keeps c =
    (goes c.args.watching.now c.entries.watching c.visit.new.watching c.args.assignment.now.steps c.entries.assignment.steps c.visit.new.assignment.steps
    c.args.falsified c.entries.place c.entries.invariant c.visit.ensures.visited).keeps

pub entries-preserved-in-Stands : goal.entries-preserved-in-Stands
entries-preserved-in-Stands c =
    visiting_stands c.args.watching.now c.entries.watching c.visit.new.watching c.args.assignment.now.steps c.entries.assignment.steps c.visit.new.assignment.steps
    c.args.falsified c.entries.place c.in-Some.number (sym c.in-Some.ensures) c.entries.invariant c.visit.ensures.visited
    (subst (VisitSays c.entries.watching c.visit.new.watching c.visit.new.assignment.steps c.args.falsified c.in-Some.number) c.in-Stands.is c.in_ok-visit.ensures.says)

pub entries-preserved : goal.entries-preserved
entries-preserved c =
    visiting_left c.args.watching.now c.entries.watching c.visit.new.watching c.args.assignment.now.steps c.entries.assignment.steps c.visit.new.assignment.steps
    c.args.falsified c.entries.place c.in-Some.number (sym c.in-Some.ensures) c.entries.invariant c.visit.ensures.visited
    (subst (VisitSays c.entries.watching c.visit.new.watching c.visit.new.assignment.steps c.args.falsified c.in-Some.number) c.in-Left.is c.in_ok-visit.ensures.says)

pub entries-smaller-in-Stands : goal.entries-smaller-in-Stands
entries-smaller-in-Stands c =
    let says = subst (VisitSays c.entries.watching c.visit.new.watching c.visit.new.assignment.steps c.args.falsified c.in-Some.number) c.in-Stands.is c.in_ok-visit.ensures.says in
    let same = ap (λ ls. length (list_for ls c.args.falsified)) says.0 in
    let within = slice_get_within (list_for c.entries.watching.lists c.args.falsified) c.entries.place c.in-Some.number (sym c.in-Some.ensures) in
    smaller_here _ _ c.entries.place same within

pub entries-smaller : goal.entries-smaller
entries-smaller c =
    let says = subst (VisitSays c.entries.watching c.visit.new.watching c.visit.new.assignment.steps c.args.falsified c.in-Some.number) c.in-Left.is c.in_ok-visit.ensures.says in
    let within = slice_get_within (list_for c.entries.watching.lists c.args.falsified) c.entries.place c.in-Some.number (sym c.in-Some.ensures) in
    smaller_left _ _ c.entries.place says within

pub returns-in-Conflict-clause-steps : goal.returns-in-Conflict-clause-steps
returns-in-Conflict-clause-steps c =
    (goes c.args.watching.now c.entries.watching c.visit.new.watching c.args.assignment.now.steps c.entries.assignment.steps c.visit.new.assignment.steps
    c.args.falsified c.entries.place c.entries.invariant c.visit.ensures.visited).steps

pub returns-in-Conflict-clause-keeps : goal.returns-in-Conflict-clause-keeps
returns-in-Conflict-clause-keeps c =
    (goes c.args.watching.now c.entries.watching c.visit.new.watching c.args.assignment.now.steps c.entries.assignment.steps c.visit.new.assignment.steps
    c.args.falsified c.entries.place c.entries.invariant c.visit.ensures.visited).keeps

pub returns-in-Conflict-clause-conflict : goal.returns-in-Conflict-clause-conflict
returns-in-Conflict-clause-conflict c =
    conflict_held c.args.watching.now c.entries.watching c.visit.new.assignment.steps c.in-Conflict.conflict c.entries.invariant.rewatched
    (subst (VisitSays c.entries.watching c.visit.new.watching c.visit.new.assignment.steps c.args.falsified c.in-Some.number) c.in-Conflict.is c.in_ok-visit.ensures.says)
