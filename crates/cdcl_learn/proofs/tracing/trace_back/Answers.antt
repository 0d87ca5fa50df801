use Rattle.std.proofs.Common.{◌≡◌, ◌++◌, ◌∷◌, [], false, None, Some, length, get_or, reverse, ap, sym, refl, ◌∙◌, ◌-◌, arith}
use Rattle.std.proofs.lemmas.Bool.{or_left}
use Rattle.std.proofs.lemmas.List.{length-replicate}
use Rattle.proof_semantics.specs.Clauses.{negation}
use Rattle.cdcl_trail.specs.AssignmentOf.{steps_from}
use Rattle.cdcl_trail.specs.Places.{told}
use Rattle.cdcl_trail.proofs.TrailLaws.{literals_beside, reasons_beside}
use Rattle.cdcl_learn.specs.Walking.{is_marked, marked, reasons_with, with_last}
use Rattle.cdcl_learn.proofs.FreshLaws.{fresh_trail}
use Rattle.cdcl_learn.proofs.LastLaws.{beside_with, within_with, reason_with, trace_from_last}
use Rattle.cdcl_learn.proofs.MarkLaws.{code_start, code_resolvent, mark_read, long_after}
use Rattle.cdcl_learn.proofs.WalkLaws.{no_literal, length_literals, code_held, conflict_at}
use Rattle.cdcl_learn.proofs.TraceLaws.{trace_starts, trace_on, trace_keeps, trace_resolves, traced_ends}
use Rattle.cdcl_learn.proofs.tracing.trace_back.Goals as goal

pub places-init : goal.places-init
places-init c =
    let lits = with_last c.args.literals.now c.args.last in
    let rs = reasons_with c.args.reasons.now c.args.last in
    let beside = beside_with c.args.literals.now c.args.reasons.now c.args.last c.requires.beside in
    let steps = steps_from lits rs in
    let same : lits ≡ _ = sym (literals_beside lits rs beside) in
    let long : length lits ≡ length steps = ap length same ∙ length_literals steps in
    record {
      traced = trace_from_last c.args.clauses.now steps c.args.literals.now c.args.reasons.now c.args.last (marked c.mark_all.new.self.marks lits) (reverse c.push.new.self.items)
          same (sym (reasons_beside lits rs beside)) c.requires.beside (trace_starts c.args.clauses.now steps (length lits) c.args.conflict c.clause_at.result.now (marked c.mark_all.new.self.marks lits) c.push.new.self.items
          c.clause_at.ensures c.requires.conflict (omega (arith, long))
          (code_start c.args.clauses.now steps lits c.clause_at.result.now c.count_with-length.result c.in_ok-marks.marks.marks c.mark_all.new.self.marks (told c.args.table.now) same c.requires.once
          (conflict_at c.args.clauses.now steps c.args.conflict c.clause_at.result.now c.requires.conflict c.clause_at.ensures) c.requires.table c.in_ok-marks.ensures.marks c.count_with-length.ensures
          c.mark_all.ensures.marks)
          (c.in_ok-push.ensures.items ∙ ap (λ xs. xs ++ c.args.conflict ∷ []) c.new-hints.ensures.items));
      long = c.mark_all.ensures.long ∙ ap length c.in_ok-marks.ensures.marks ∙ length-replicate c.count_with-length.result false ∙ c.count_with-length.ensures;
      below = omega arith;
    }

pub places-preserved-then-not-has : goal.places-preserved-then-not-has
places-preserved-then-not-has c =
    let lits = with_last c.args.literals.now c.args.last in
    let rs = reasons_with c.args.reasons.now c.args.last in
    let beside = beside_with c.args.literals.now c.args.reasons.now c.args.last c.requires.beside in
    let marks = c.places.marks.marks in
    let p = c.places.place in
    record {
      traced = trace_on c.args.clauses.now (steps_from lits rs) p (marked marks lits) (reverse c.places.hints.items)
          lits (negation (get_or lits (p - 1) no_literal)) (is_marked marks (p - 1)) (sym (literals_beside lits rs beside)) c.places-test.true
          (within_with c.args.literals.now c.args.last c.places.place c.places.invariant.below) refl (mark_read marks lits (p - 1) c.requires.once (omega (arith, c.places-test.true, within_with c.args.literals.now c.args.last c.places.place c.places.invariant.below)))
          (sym c.has.ensures ∙ c.if-not-has.true) c.places.invariant.traced;
      long = c.places.invariant.long;
      below = omega (arith, c.places.invariant.below);
    }

pub places-preserved-in_default : goal.places-preserved-in_default
places-preserved-in_default c =
    let lits = with_last c.args.literals.now c.args.last in
    let rs = reasons_with c.args.reasons.now c.args.last in
    let beside = beside_with c.args.literals.now c.args.reasons.now c.args.last c.requires.beside in
    record {
      traced = trace_keeps c.args.clauses.now (steps_from lits rs) c.places.place (marked c.places.marks.marks lits) (reverse c.places.hints.items)
          lits rs (sym (literals_beside lits rs beside)) (sym (reasons_beside lits rs beside))
          c.places-test.true (within_with c.args.literals.now c.args.last c.places.place c.places.invariant.below) (reason_with c.args.literals.now c.args.reasons.now c.args.last c.places.place None c.requires.beside c.places-test.true c.places.invariant.below c.in_default.is) c.places.invariant.traced;
      long = c.places.invariant.long;
      below = omega (arith, c.places.invariant.below);
    }

pub clause_at-requires-in-places : goal.clause_at-requires-in-places
clause_at-requires-in-places c =
    let lits = with_last c.args.literals.now c.args.last in
    let rs = reasons_with c.args.reasons.now c.args.last in
    let beside = beside_with c.args.literals.now c.args.reasons.now c.args.last c.requires.beside in
    let same : lits ≡ _ = sym (literals_beside lits rs beside) in
    code_held c.args.clauses.now (steps_from lits rs) lits rs 0 c.places.place c.in-Some.number
    same (sym (reasons_beside lits rs beside)) c.places-test.true (within_with c.args.literals.now c.args.last c.places.place c.places.invariant.below) (reason_with c.args.literals.now c.args.reasons.now c.args.last c.places.place (Some c.in-Some.number) c.requires.beside c.places-test.true c.places.invariant.below c.in-Some.is)
    (fresh_trail c.args.clauses.now (steps_from lits rs) lits same c.requires.once c.requires.reasons)

pub places-preserved : goal.places-preserved
places-preserved c =
    let lits = with_last c.args.literals.now c.args.last in
    let rs = reasons_with c.args.reasons.now c.args.last in
    let beside = beside_with c.args.literals.now c.args.reasons.now c.args.last c.requires.beside in
    let steps = steps_from lits rs in
    let same : lits ≡ _ = sym (literals_beside lits rs beside) in
    let same_reasons : rs ≡ _ = sym (reasons_beside lits rs beside) in
    let fresh = fresh_trail c.args.clauses.now steps lits same c.requires.once c.requires.reasons in
    record {
      traced = trace_resolves c.args.clauses.now steps c.places.place (marked c.places.marks.marks lits) (marked c.places.marks.marks lits) (marked c.unmark.new.self.marks lits)
          c.clause_at-in-places.result.now c.places.hints.items c.push-in-places.new.self.items lits rs c.in-Some.number
          same same_reasons c.places-test.true (within_with c.args.literals.now c.args.last c.places.place c.places.invariant.below) (reason_with c.args.literals.now c.args.reasons.now c.args.last c.places.place (Some c.in-Some.number) c.requires.beside c.places-test.true c.places.invariant.below c.in-Some.is) c.clause_at-in-places.ensures fresh refl
          (code_resolvent c.args.clauses.now steps lits c.clause_at-in-places.result.now rs c.places.marks.marks c.mark_all-in-places.new.self.marks c.unmark.new.self.marks
          (told c.args.table.now) c.places.place c.in-Some.number same same_reasons c.requires.once c.places-test.true (within_with c.args.literals.now c.args.last c.places.place c.places.invariant.below) c.places.invariant.long
          c.mark_all-in-places.ensures.long (reason_with c.args.literals.now c.args.reasons.now c.args.last c.places.place (Some c.in-Some.number) c.requires.beside c.places-test.true c.places.invariant.below c.in-Some.is) c.clause_at-in-places.ensures fresh c.requires.table c.mark_all-in-places.ensures.marks c.unmark.ensures.marks)
          c.in_ok-push-2.ensures.items c.places.invariant.traced;
      long = long_after c.places.marks.marks c.mark_all-in-places.new.self.marks c.unmark.new.self.marks (c.places.place - 1) c.mark_all-in-places.ensures.long c.unmark.ensures.marks
          ∙ c.places.invariant.long;
      below = omega (arith, c.places.invariant.below);
    }

pub returns-clause-hints : goal.returns-clause-hints
returns-clause-hints c =
    let lits = with_last c.args.literals.now c.args.last in
    let rs = reasons_with c.args.reasons.now c.args.last in
    let beside = beside_with c.args.literals.now c.args.reasons.now c.args.last c.requires.beside in
    traced_ends c.args.clauses.now (steps_from lits rs) c.places.place (marked c.places.marks.marks lits) c.in_order.result.clause
    (reverse c.places.hints.items) c.in_order.result.hints c.places-test.false
    (c.in_order.ensures.clause ∙ c.in_ok-clause.ensures) c.in_order.ensures.hints
    (fresh_trail c.args.clauses.now (steps_from lits rs) lits (sym (literals_beside lits rs beside)) c.requires.once c.requires.reasons)
    c.places.invariant.traced

pub unmark-requires : goal.unmark-requires
unmark-requires c =
    c.mark_all-in-places.ensures.marks (c.places.place - 1) (omega (arith, c.places-test.true, within_with c.args.literals.now c.args.last c.places.place c.places.invariant.below, c.places.invariant.long))
    ∙ or_left _ _ (sym c.has.ensures ∙ c.if-not-has.false)
