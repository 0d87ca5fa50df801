use Rattle.std.proofs.Common.{Some, ap, sym, ◌∙◌, inr}
use Rattle.std.specs.Prelude.{is_some}
use Rattle.cdcl_trail.specs.Propagation.{is_true}
use Rattle.cdcl_trail.specs.Trails.{value_of}
use Rattle.cdcl_trail.proofs.PassLaws.{unit_unvalued}
use Rattle.cdcl_trail.proofs.VisitLaws.{first_inside, single_false, single_unit, true_comes}
use Rattle.cdcl_trail.proofs.ScanLaws.{any_has}
use Rattle.cdcl_trail.proofs.propagation.settle_single.Goals as goal

pub returns-then-is_false-clause-settled : goal.returns-then-is_false-clause-settled
returns-then-is_false-clause-settled c =
    single_false c.args.assignment.now.steps c.args.clause.now c.in-Some.literal.now c.requires.single
    (first_inside c.args.clause.now c.in-Some.literal.now (sym c.in-Some.ensures.value)) (sym c.is_false.ensures ∙ c.if-is_false.true)

pub returns-clause-steps : goal.returns-clause-steps
returns-clause-steps c =
    inr (
      c.in-Some.literal.now,
      single_unit c.args.assignment.now.steps c.args.clause.now c.in-Some.literal.now c.requires.single
          (first_inside c.args.clause.now c.in-Some.literal.now (sym c.in-Some.ensures.value))
          (sym (c.is_some.ensures ∙ ap is_some (c.value.ensures ∙ ap (value_of c.args.assignment.now.steps) c.number.ensures.number)) ∙ c.if-is_some.false),
      c.in_ok-put.ensures.ok,
    )

pub returns-clause-settled : goal.returns-clause-settled
returns-clause-settled c =
    let s = c.args.assignment.now.steps in
    let has = first_inside c.args.clause.now c.in-Some.literal.now (sym c.in-Some.ensures.value) in
    any_has (is_true c.put.new.self.steps) c.args.clause.now c.in-Some.literal.now has
    (ap (λ xs. is_true xs c.in-Some.literal.now) c.in_ok-put.ensures.ok
    ∙ true_comes s c.in-Some.literal.now (Some c.args.number)
    (unit_unvalued s c.args.clause.now c.in-Some.literal.now
    (single_unit s c.args.clause.now c.in-Some.literal.now c.requires.single has (sym (c.is_some.ensures ∙ ap is_some (c.value.ensures ∙ ap (value_of c.args.assignment.now.steps) c.number.ensures.number)) ∙ c.if-is_some.false))))
