use Rattle.std.proofs.Common.{ap, sym, subst, ◌∙◌, length, reverse, arith}
use Rattle.std.specs.Prelude.{is_none}
use Rattle.std.specs.List.{list_any}
use Rattle.cdcl_trail.specs.Trails.{literals_of, once, reasons_in}
use Rattle.cdcl_learn.specs.Walking.{IsLastAssumed, marked}
use Rattle.cdcl_learn.proofs.WalkLaws.{level_assumes, lower_before, length_literals, length_reasons, last_below, point_learned, learned_is}
use Rattle.cdcl_learn.proofs.learning.walk.Goals as goal

pub last_assumed-start-requires : goal.last_assumed-start-requires
last_assumed-start-requires c =
    ap (list_any (λ reason. is_none reason)) c.reasons.ensures ∙ level_assumes c.args.trail.now.steps c.requires.level

pub to_point-requires-clause-last : goal.to_point-requires-clause-last
to_point-requires-clause-last c = subst (λ r. IsLastAssumed r c.last_assumed-start.result) c.reasons.ensures c.last_assumed-start.ensures

pub minimise-requires-clause-start : goal.minimise-requires-clause-start
minimise-requires-clause-start c =
    let last = subst (λ r. IsLastAssumed r c.last_assumed-start.result) c.reasons.ensures c.last_assumed-start.ensures in
    omega (arith, length_reasons c.args.trail.now.steps, last_below (reasons_in c.args.trail.now.steps) c.last_assumed-start.result last)

pub clause_of-requires : goal.clause_of-requires
clause_of-requires c =
    c.minimise.ensures.long ∙ sym (ap length c.literals-literals.ensures.value ∙ length_literals c.args.trail.now.steps)

pub returns : goal.returns
returns c =
    let steps = c.args.trail.now.steps in
    let start = c.last_assumed-start.result in
    let last = subst (λ r. IsLastAssumed r start) c.reasons.ensures c.last_assumed-start.ensures in
    learned_is c.args.clauses.now steps (marked c.minimise.new.resolvent.marks.marks (literals_of steps)) c.in_order.result.clause
    (reverse c.minimise.new.resolvent.hints.items) c.in_order.result.hints
    (c.in_order.ensures.clause ∙ c.in_ok-clause.ensures ∙ ap (marked c.minimise.new.resolvent.marks.marks) c.literals-literals.ensures.value) c.in_order.ensures.hints
    (point_learned c.args.clauses.now steps start (marked c.minimise.new.resolvent.marks.marks (literals_of steps)) (reverse c.minimise.new.resolvent.hints.items)
    (lower_before steps start last) c.in_ok-minimise.ensures.point)

pub to_point-requires-clause-table : goal.to_point-requires-clause-table
to_point-requires-clause-table c = c.places-table.ensures

pub minimise-requires-clause-table : goal.minimise-requires-clause-table
minimise-requires-clause-table c = c.places-table.ensures

pub minimise-requires-clause-once : goal.minimise-requires-clause-once
minimise-requires-clause-once c = ap once (sym c.literals-literals.ensures.value) ∙ c.literals-literals.ensures.once
