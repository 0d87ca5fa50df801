use Rattle.std.proofs.Common.{None, length, arith, refl, sym, subst, ◌∙◌}
use Rattle.std.proofs.lemmas.Option.{slice_get_within}
use Rattle.cdcl_trail.specs.Storing.{held}
use Rattle.cdcl_trail.proofs.LoopLaws.{are_settling_start, are_settling_on, are_settling_next, true_here, conflict_at, singles_past, smaller_here}
use Rattle.cdcl_trail.specs.Visiting.{SingleSays}
use Rattle.cdcl_trail.proofs.propagation.settle_singles.Goals as goal

pub singles-init : goal.singles-init
singles-init c = are_settling_start c.args.watching.now c.args.assignment.now.steps c.args.count.now

pub settle_single-requires : goal.settle_single-requires
settle_single-requires c =
    record { single = c.requires.single c.in-Some.number c.in-Some-clause.clause.now (c.requires.unpaired c.singles.count c.in-Some.number (sym c.in-Some.ensures)) (sym c.in-Some-clause.ensures) }

pub returns-in_default-clause-none : goal.returns-in_default-clause-none
returns-in_default-clause-none c = λ _. singles_past c.args.watching.now.singles.items c.singles.count (sym c.single_at.ensures ∙ c.in_default.is)

pub returns-in_err-settle_single-clause-steps : goal.returns-in_err-settle_single-clause-steps
returns-in_err-settle_single-clause-steps c =
    (are_settling_on c.args.watching.now c.args.assignment.now.steps c.singles.assignment.steps c.settle_single.new.assignment.steps c.args.count.now c.singles.count c.in-Some.number
    c.in-Some-clause.clause.now c.singles.invariant (sym c.in-Some-clause.ensures) c.settle_single.ensures.steps).steps

pub returns-in_err-settle_single-clause-sure : goal.returns-in_err-settle_single-clause-sure
returns-in_err-settle_single-clause-sure c =
    (are_settling_on c.args.watching.now c.args.assignment.now.steps c.singles.assignment.steps c.settle_single.new.assignment.steps c.args.count.now c.singles.count c.in-Some.number
    c.in-Some-clause.clause.now c.singles.invariant (sym c.in-Some-clause.ensures) c.settle_single.ensures.steps).sure

pub returns-then-not-branch-clause-steps : goal.returns-then-not-branch-clause-steps
returns-then-not-branch-clause-steps c =
    (are_settling_on c.args.watching.now c.args.assignment.now.steps c.singles.assignment.steps c.settle_single.new.assignment.steps c.args.count.now c.singles.count c.in-Some.number
    c.in-Some-clause.clause.now c.singles.invariant (sym c.in-Some-clause.ensures) c.settle_single.ensures.steps).steps

pub returns-then-not-branch-clause-sure : goal.returns-then-not-branch-clause-sure
returns-then-not-branch-clause-sure c =
    (are_settling_on c.args.watching.now c.args.assignment.now.steps c.singles.assignment.steps c.settle_single.new.assignment.steps c.args.count.now c.singles.count c.in-Some.number
    c.in-Some-clause.clause.now c.singles.invariant (sym c.in-Some-clause.ensures) c.settle_single.ensures.steps).sure

pub overflow_add-result : goal.overflow_add-result
overflow_add-result c =
    let within = slice_get_within c.args.watching.now.pairs.items c.in-Some.number None (c.requires.unpaired c.singles.count c.in-Some.number (sym c.in-Some.ensures)) in
    omega (arith, within, c.args.watching.now.pairs.ok.0)

pub overflow_add-count-in-singles : goal.overflow_add-count-in-singles
overflow_add-count-in-singles c =
    let within = slice_get_within c.args.watching.now.singles.items c.singles.count c.in-Some.number (sym c.in-Some.ensures) in
    omega (arith, within, c.args.watching.now.singles.ok.0)

pub singles-smaller : goal.singles-smaller
singles-smaller c =
    let within = slice_get_within c.args.watching.now.singles.items c.singles.count c.in-Some.number (sym c.in-Some.ensures) in
    smaller_here _ (length c.args.watching.now.singles.items) c.singles.count refl within

pub singles-preserved : goal.singles-preserved
singles-preserved c =
    are_settling_next c.args.watching.now c.args.assignment.now.steps c.settle_single.new.assignment.steps c.args.count.now c.singles.count c.in-Some.number
    (are_settling_on c.args.watching.now c.args.assignment.now.steps c.singles.assignment.steps c.settle_single.new.assignment.steps c.args.count.now c.singles.count c.in-Some.number
    c.in-Some-clause.clause.now c.singles.invariant (sym c.in-Some-clause.ensures) c.settle_single.ensures.steps) (sym c.in-Some.ensures)
    (true_here (held c.args.watching.now) c.in-Some.number c.in-Some-clause.clause.now c.settle_single.new.assignment.steps (sym c.in-Some-clause.ensures)
    (subst (SingleSays c.in-Some-clause.clause.now c.settle_single.new.assignment.steps) c.if-not-branch.false c.in_ok-settle_single.ensures.settled))

pub returns-then-not-branch-clause-conflict : goal.returns-then-not-branch-clause-conflict
returns-then-not-branch-clause-conflict c =
    conflict_at (held c.args.watching.now) c.in-Some.number c.in-Some-clause.clause.now c.settle_single.new.assignment.steps (sym c.in-Some-clause.ensures)
    (subst (SingleSays c.in-Some-clause.clause.now c.settle_single.new.assignment.steps) c.if-not-branch.true c.in_ok-settle_single.ensures.settled)

pub returns-in_err-settle_single-clause-counted : goal.returns-in_err-settle_single-clause-counted
returns-in_err-settle_single-clause-counted c =
    (are_settling_on c.args.watching.now c.args.assignment.now.steps c.singles.assignment.steps c.settle_single.new.assignment.steps c.args.count.now c.singles.count c.in-Some.number
    c.in-Some-clause.clause.now c.singles.invariant (sym c.in-Some-clause.ensures) c.settle_single.ensures.steps).counted

pub returns-then-not-branch-clause-counted : goal.returns-then-not-branch-clause-counted
returns-then-not-branch-clause-counted c =
    (are_settling_on c.args.watching.now c.args.assignment.now.steps c.singles.assignment.steps c.settle_single.new.assignment.steps c.args.count.now c.singles.count c.in-Some.number
    c.in-Some-clause.clause.now c.singles.invariant (sym c.in-Some-clause.ensures) c.settle_single.ensures.steps).counted
