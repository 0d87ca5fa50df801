use Rattle.std.proofs.Common.{◌≡◌, ◌<◌, None, length, get_or, refl, ap, sym, ◌∙◌, ◌-◌, ◌+◌, arith}
use Rattle.std.proofs.lemmas.Bool.{or_left}
use Rattle.cdcl_trail.specs.Places.{told}
use Rattle.cdcl_trail.specs.Trails.{literals_of}
use Rattle.cdcl_learn.specs.Walking.{is_at, marked}
use Rattle.cdcl_learn.proofs.FreshLaws.{fresh_trail}
use Rattle.cdcl_learn.proofs.MarkLaws.{resolvent_at, long_after}
use Rattle.cdcl_learn.proofs.WalkLaws.{length_literals, code_held, code_minimises}
use Rattle.cdcl_learn.proofs.minimising.minimise_at.Goals as goal

pub clause_at-reason-requires : goal.clause_at-reason-requires
clause_at-reason-requires c =
    let steps = c.args.trail.now.steps in
    let lits = literals_of steps in
    let place = c.args.place in
    let here : place + 1 - 1 ≡ place = omega arith in
    code_held c.args.clauses.now steps lits c.reasons-reasons.result.now 0 (place + 1) c.in-Some.number refl c.reasons-reasons.ensures
    (omega arith) (omega (arith, c.requires.place, length_literals steps))
    (ap (λ n. get_or c.reasons-reasons.result.now n None) here ∙ c.in-Some.is)
    (fresh_trail c.args.clauses.now steps lits refl c.requires.once c.requires.reasons)

pub unmark-requires : goal.unmark-requires
unmark-requires c =
    c.mark_all.ensures.marks c.args.place (omega (arith, c.requires.place, c.requires.long))
    ∙ or_left _ _ (sym c.has.ensures ∙ c.if-not-has.false)

pub returns-clause-point : goal.returns-clause-point
returns-clause-point c = λ start early at.
    let clauses = c.args.clauses.now in
    let steps = c.args.trail.now.steps in
    let lits = literals_of steps in
    let marks = c.args.resolvent.now.marks.marks in
    let place = c.args.place in
    let many : length lits ≡ length steps = length_literals steps in
    let under : place < length lits = omega (arith, c.requires.place, many) in
    let fresh = fresh_trail clauses steps lits refl c.requires.once c.requires.reasons in
    let long : length marks ≡ length lits = c.requires.long ∙ sym many in
    code_minimises clauses steps start place (marked marks lits) (marked c.unmark.new.self.marks lits) c.clause_at-reason.result.now
    c.args.resolvent.now.hints.items c.push.new.self.items lits c.reasons-reasons.result.now c.in-Some.number
    refl c.reasons-reasons.ensures early under c.in-Some.is c.clause_at-reason.ensures fresh
    (resolvent_at clauses steps lits c.clause_at-reason.result.now c.reasons-reasons.result.now marks c.mark_all.new.self.marks c.unmark.new.self.marks
    (told c.args.table.now) place c.in-Some.number refl c.reasons-reasons.ensures c.requires.once
    under long c.mark_all.ensures.long c.in-Some.is c.clause_at-reason.ensures fresh
    (λ v q below. ap (λ o. is_at o q) (c.requires.table v))
    c.mark_all.ensures.marks c.unmark.ensures.marks)
    c.in_ok-push.ensures.items at

pub returns-clause-long : goal.returns-clause-long
returns-clause-long c =
    long_after c.args.resolvent.now.marks.marks c.mark_all.new.self.marks c.unmark.new.self.marks c.args.place c.mark_all.ensures.long c.unmark.ensures.marks
    ∙ c.requires.long
