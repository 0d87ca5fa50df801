use Rattle.std.proofs.Common.{◌≡◌, true, sym, subst, ◌∙◌}
use Rattle.cdcl_trail.specs.Storing.{held}
use Rattle.cdcl_trail.specs.Guards.{AreDone}
use Rattle.cdcl_trail.specs.Propagation.{is_false, IsConflict}
use Rattle.std.specs.Option.{IfSome}
use Rattle.cdcl_trail.proofs.LoopLaws.{settling_start, settling_stopped, settling_next, negation_false, steps_smaller, settling_end, conflict_held}
use Rattle.cdcl_trail.proofs.propagation.settle_steps.Goals as goal

pub steps-init : goal.steps-init
steps-init c = settling_start c.args.watching.now c.args.assignment.now.steps c.args.count.now c.requires.stored c.requires.covers c.requires.within c.requires.guarded

pub visit_all-requires-clause-falsified : goal.visit_all-requires-clause-falsified
visit_all-requires-clause-falsified c =
    subst (λ b. is_false c.steps.assignment.steps b ≡ true) (sym c.negation-falsified.ensures)
    (negation_false c.steps.assignment.steps c.steps.count c.in-Some.literal c.literal_at.ensures.once (sym c.in-Some.ensures.value))

pub returns-in_default-clause-none : goal.returns-in_default-clause-none
returns-in_default-clause-none c = λ _.
    settling_end c.args.watching.now c.steps.watching c.args.assignment.now.steps c.steps.assignment.steps c.steps.count c.steps.invariant (sym c.literal_at.ensures.value ∙ c.in_default.is)

pub returns-in_err-conflict-clause-steps : goal.returns-in_err-conflict-clause-steps
returns-in_err-conflict-clause-steps c =
    (settling_stopped c.args.watching.now c.steps.watching c.visit_all.new.watching c.args.assignment.now.steps c.steps.assignment.steps c.visit_all.new.assignment.steps
    c.steps.count c.steps.invariant c.visit_all.ensures.rewatched c.visit_all.ensures.covers c.visit_all.ensures.steps c.visit_all.ensures.keeps).steps

pub returns-in_err-conflict-clause-keeps : goal.returns-in_err-conflict-clause-keeps
returns-in_err-conflict-clause-keeps c =
    (settling_stopped c.args.watching.now c.steps.watching c.visit_all.new.watching c.args.assignment.now.steps c.steps.assignment.steps c.visit_all.new.assignment.steps
    c.steps.count c.steps.invariant c.visit_all.ensures.rewatched c.visit_all.ensures.covers c.visit_all.ensures.steps c.visit_all.ensures.keeps).keeps

pub returns-in_err-conflict-clause-guarded : goal.returns-in_err-conflict-clause-guarded
returns-in_err-conflict-clause-guarded c =
    (settling_stopped c.args.watching.now c.steps.watching c.visit_all.new.watching c.args.assignment.now.steps c.steps.assignment.steps c.visit_all.new.assignment.steps
    c.steps.count c.steps.invariant c.visit_all.ensures.rewatched c.visit_all.ensures.covers c.visit_all.ensures.steps c.visit_all.ensures.keeps).guarded

pub returns-in-Some-2-clause-steps : goal.returns-in-Some-2-clause-steps
returns-in-Some-2-clause-steps c =
    (settling_stopped c.args.watching.now c.steps.watching c.visit_all.new.watching c.args.assignment.now.steps c.steps.assignment.steps c.visit_all.new.assignment.steps
    c.steps.count c.steps.invariant c.visit_all.ensures.rewatched c.visit_all.ensures.covers c.visit_all.ensures.steps c.visit_all.ensures.keeps).steps

pub returns-in-Some-2-clause-keeps : goal.returns-in-Some-2-clause-keeps
returns-in-Some-2-clause-keeps c =
    (settling_stopped c.args.watching.now c.steps.watching c.visit_all.new.watching c.args.assignment.now.steps c.steps.assignment.steps c.visit_all.new.assignment.steps
    c.steps.count c.steps.invariant c.visit_all.ensures.rewatched c.visit_all.ensures.covers c.visit_all.ensures.steps c.visit_all.ensures.keeps).keeps

pub returns-in-Some-2-clause-guarded : goal.returns-in-Some-2-clause-guarded
returns-in-Some-2-clause-guarded c =
    (settling_stopped c.args.watching.now c.steps.watching c.visit_all.new.watching c.args.assignment.now.steps c.steps.assignment.steps c.visit_all.new.assignment.steps
    c.steps.count c.steps.invariant c.visit_all.ensures.rewatched c.visit_all.ensures.covers c.visit_all.ensures.steps c.visit_all.ensures.keeps).guarded

pub steps-smaller : goal.steps-smaller
steps-smaller c =
    steps_smaller c.args.watching.now c.steps.watching c.steps.assignment.steps c.visit_all.new.assignment.steps c.steps.count c.in-Some.literal
    c.steps.invariant.rewatched c.visit_all.ensures.steps (sym c.in-Some.ensures.value)

pub steps-preserved : goal.steps-preserved
steps-preserved c =
    settling_next c.args.watching.now c.steps.watching c.visit_all.new.watching c.args.assignment.now.steps c.steps.assignment.steps c.visit_all.new.assignment.steps
    c.steps.count c.in-Some.literal c.steps.invariant c.visit_all.ensures.rewatched c.visit_all.ensures.covers c.visit_all.ensures.steps c.visit_all.ensures.keeps (sym c.in-Some.ensures.value)
    (subst (λ b. AreDone c.visit_all.new.assignment.steps b c.visit_all.new.watching.pairs.items) c.negation-falsified.ensures
    (c.in_ok-conflict.ensures.none c.in_default-2.is))

pub returns-in-Some-2-clause-conflict : goal.returns-in-Some-2-clause-conflict
returns-in-Some-2-clause-conflict c =
    conflict_held c.args.watching.now c.steps.watching c.visit_all.new.assignment.steps c.in-Some-2.conflict c.steps.invariant.rewatched
    (subst (λ found. IfSome found (IsConflict (held c.steps.watching) c.visit_all.new.assignment.steps)) c.in-Some-2.is c.in_ok-conflict.ensures.conflict)
