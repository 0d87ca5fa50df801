use Rattle.std.proofs.Common.{◌≡◌, ◌≤◌, ◌++◌, ◌∷◌, [], false, true, length, get_or, take, drop, reverse, ap, refl, sym, ◌∙◌, ◌-◌, ◌+◌, arith}
use Rattle.std.proofs.lemmas.List.{length-replicate}
use Rattle.std.proofs.lemmas.Bool.{or_left}
use Rattle.std.specs.List.{list_any}
use Rattle.proof_semantics.specs.Clauses.{negation, has_literal}
use Rattle.cdcl_trail.specs.Propagation.{is_false}
use Rattle.cdcl_trail.specs.Places.{told}
use Rattle.cdcl_trail.specs.Trails.{literals_of, reasons_in, once}
use Rattle.cdcl_learn.specs.Walking.{is_at, is_marked, marked, count_from}
use Rattle.cdcl_learn.proofs.FreshLaws.{fresh_trail}
use Rattle.cdcl_learn.proofs.MarkLaws.{code_start, code_resolvent, mark_read, long_after, alone, not_alone}
use Rattle.cdcl_learn.proofs.WalkLaws.{no_literal, lower_before, start_way, conflict_at, length_literals, length_reasons, last_below, code_on, code_ends, code_assumed, code_held, code_resolves, way_over}
use Rattle.cdcl_learn.proofs.learning.to_point.Goals as goal

pub back-init : goal.back-init
back-init c =
    let steps = c.args.trail.now.steps in
    let lits = literals_of steps in
    let start = c.args.start in
    let one : once lits ≡ true = ap once (sym c.literals-literals.ensures.value) ∙ c.literals-literals.ensures.once in
    let long : length lits ≡ length steps = length_literals steps in
    let n = length c.literals-literals.result.now in
    let many : n ≡ length lits = ap length c.literals-literals.ensures.value in
    record {
      way = start_way c.args.clauses.now steps start n c.args.conflict c.clause_at.result.now (marked c.mark_all.new.self.marks lits) c.push.new.self.items
          c.clause_at.ensures (conflict_at c.args.clauses.now steps c.args.conflict c.clause_at.result.now c.requires.conflict c.clause_at.ensures)
          (omega (arith, long, many)) c.requires.complete (lower_before steps start c.requires.last)
          (code_start c.args.clauses.now steps lits c.clause_at.result.now n c.in_ok-marks.marks.marks c.mark_all.new.self.marks (told c.args.table.now)
          refl one (conflict_at c.args.clauses.now steps c.args.conflict c.clause_at.result.now c.requires.conflict c.clause_at.ensures)
          (λ v q below. ap (λ o. is_at o q) (c.requires.table v))
          c.in_ok-marks.ensures.marks many c.mark_all.ensures.marks)
          (c.in_ok-push.ensures.items ∙ ap (λ xs. xs ++ c.args.conflict ∷ []) c.new-hints.ensures.items);
      start = c.mark_all.ensures.start ∙ c.in_ok-marks.ensures.start;
      long = c.mark_all.ensures.long ∙ ap length c.in_ok-marks.ensures.marks ∙ length-replicate n false ∙ many ∙ long;
      above = omega (arith, long, many, length_reasons steps, last_below (reasons_in steps) start c.requires.last);
      below = omega (arith, long, many);
    }

pub back-preserved-then-not-has : goal.back-preserved-then-not-has
back-preserved-then-not-has c =
    let steps = c.args.trail.now.steps in
    let lits = literals_of steps in
    let one : once lits ≡ true = ap once (sym c.literals-literals.ensures.value) ∙ c.literals-literals.ensures.once in
    let marks = c.back.marks.marks in
    let p = c.back.place in
    let under : p ≤ length lits = omega (arith, c.back.invariant.below, length_literals steps) in
    record {
      way = code_on c.args.clauses.now steps c.args.start p (marked marks lits) (reverse c.back.hints.items)
          lits (negation (get_or lits (p - 1) no_literal)) (is_marked marks (p - 1)) refl c.back-test.true under
          refl (mark_read marks lits (p - 1) one (omega (arith, c.back-test.true, under)))
          (sym c.has.ensures ∙ c.if-not-has.true) c.back.invariant.way;
      start = c.back.invariant.start;
      long = c.back.invariant.long;
      above = omega (arith, c.back-test.true);
      below = omega (arith, c.back.invariant.below);
    }

pub returns-then-count-eq1-clause-point : goal.returns-then-count-eq1-clause-point
returns-then-count-eq1-clause-point c =
    let steps = c.args.trail.now.steps in
    let lits = literals_of steps in
    let one : once lits ≡ true = ap once (sym c.literals-literals.ensures.value) ∙ c.literals-literals.ensures.once in
    let marks = c.back.marks.marks in
    let p = c.back.place in
    let start = c.args.start in
    let under : p ≤ length lits = omega (arith, c.back.invariant.below, length_literals steps) in
    let here : is_marked marks (p - 1) ≡ true = sym c.has.ensures ∙ c.if-not-has.false in
    let from : start ≤ p - 1 = omega (arith, c.back-test.true) in
    let single : count_from start marks ≡ 1 = ap (λ n. count_from n marks) (sym c.back.invariant.start) ∙ sym c.count.ensures ∙ c.if-count-eq1.true in
    code_ends c.args.clauses.now steps start p (marked marks lits) (reverse c.back.hints.items)
    lits (negation (get_or lits (p - 1) no_literal)) (is_marked marks (p - 1))
    (list_any (λ l. has_literal (marked marks lits) (negation l)) (take (p - 1 - start) (drop start lits)))
    refl c.back-test.true under refl (mark_read marks lits (p - 1) one (omega (arith, c.back-test.true, under))) here
    refl (alone marks lits start (p - 1) one here from single)
    (fresh_trail c.args.clauses.now steps lits refl one c.requires.reasons)
    c.back.invariant.way

pub returns-then-count-eq1-clause-long : goal.returns-then-count-eq1-clause-long
returns-then-count-eq1-clause-long c = c.back.invariant.long

pub returns-in_default-clause-point : goal.returns-in_default-clause-point
returns-in_default-clause-point c =
    let steps = c.args.trail.now.steps in
    let lits = literals_of steps in
    let one : once lits ≡ true = ap once (sym c.literals-literals.ensures.value) ∙ c.literals-literals.ensures.once in
    let marks = c.back.marks.marks in
    let p = c.back.place in
    let start = c.args.start in
    let under : p ≤ length lits = omega (arith, c.back.invariant.below, length_literals steps) in
    let long : length marks ≡ length lits = c.back.invariant.long ∙ sym (length_literals steps) in
    let here : is_marked marks (p - 1) ≡ true = sym c.has.ensures ∙ c.if-not-has.false in
    let from : start ≤ p - 1 = omega (arith, c.back-test.true) in
    let next : p - 1 + 1 ≡ p = omega (arith, c.back-test.true) in
    let others : list_any (λ l. has_literal (marked marks lits) (negation l)) (take (p - 1 - start) (drop start lits)) ≡ true =
    not_alone steps marks lits start (p - 1) refl one long here from
    (λ single. c.if-count-eq1.false (c.count.ensures ∙ ap (λ n. count_from n marks) c.back.invariant.start ∙ single))
    (λ a has. ap (λ n. is_false (take n steps) a) next ∙ c.back.invariant.way.within a has) in
    code_assumed steps (marked marks lits) lits c.reasons-reasons.result.now start p
    (list_any (λ l. has_literal (marked marks lits) (negation l)) (take (p - 1 - start) (drop start lits)))
    refl c.reasons-reasons.ensures c.requires.last c.back-test.true under c.in_default.is refl others

pub returns-in_default-clause-long : goal.returns-in_default-clause-long
returns-in_default-clause-long c = c.back.invariant.long

pub clause_at-requires-in-back : goal.clause_at-requires-in-back
clause_at-requires-in-back c =
    let steps = c.args.trail.now.steps in
    let lits = literals_of steps in
    let one : once lits ≡ true = ap once (sym c.literals-literals.ensures.value) ∙ c.literals-literals.ensures.once in
    code_held c.args.clauses.now steps lits c.reasons-reasons.result.now c.args.start c.back.place c.in-Some.number
    refl c.reasons-reasons.ensures c.back-test.true (omega (arith, c.back.invariant.below, length_literals steps)) c.in-Some.is
    (fresh_trail c.args.clauses.now steps lits refl one c.requires.reasons)

pub unmark-requires : goal.unmark-requires
unmark-requires c =
    c.mark_all-in-back.ensures.marks (c.back.place - 1) (omega (arith, c.back-test.true, c.back.invariant.below, c.back.invariant.long))
    ∙ or_left _ _ (sym c.has.ensures ∙ c.if-not-has.false)

pub bounds : goal.bounds
bounds c =
    omega (arith, c.back-test.true, c.back.invariant.below, ap length c.reasons-reasons.ensures, length_reasons c.args.trail.now.steps)

pub back-preserved : goal.back-preserved
back-preserved c =
    let clauses = c.args.clauses.now in
    let steps = c.args.trail.now.steps in
    let lits = literals_of steps in
    let one : once lits ≡ true = ap once (sym c.literals-literals.ensures.value) ∙ c.literals-literals.ensures.once in
    let marks = c.back.marks.marks in
    let p = c.back.place in
    let start = c.args.start in
    let under : p ≤ length lits = omega (arith, c.back.invariant.below, length_literals steps) in
    let long : length marks ≡ length lits = c.back.invariant.long ∙ sym (length_literals steps) in
    let here : is_marked marks (p - 1) ≡ true = sym c.has.ensures ∙ c.if-not-has.false in
    let from : start ≤ p - 1 = omega (arith, c.back-test.true) in
    let next : p - 1 + 1 ≡ p = omega (arith, c.back-test.true) in
    let others : list_any (λ l. has_literal (marked marks lits) (negation l)) (take (p - 1 - start) (drop start lits)) ≡ true =
    not_alone steps marks lits start (p - 1) refl one long here from
    (λ single. c.if-count-eq1.false (c.count.ensures ∙ ap (λ n. count_from n marks) c.back.invariant.start ∙ single))
    (λ a has. ap (λ n. is_false (take n steps) a) next ∙ c.back.invariant.way.within a has) in
    let fresh = fresh_trail clauses steps lits refl one c.requires.reasons in
    record {
      way = code_resolves clauses steps start p (marked marks lits) (marked marks lits) (marked c.unmark.new.self.marks lits) c.clause_at-in-back.result.now
          c.back.hints.items c.push-in-back.new.self.items lits c.reasons-reasons.result.now c.in-Some.number
          (list_any (λ l. has_literal (marked marks lits) (negation l)) (take (p - 1 - start) (drop start lits)))
          refl c.reasons-reasons.ensures c.back-test.true under c.in-Some.is c.clause_at-in-back.ensures refl others fresh refl
          (code_resolvent clauses steps lits c.clause_at-in-back.result.now c.reasons-reasons.result.now marks c.mark_all-in-back.new.self.marks c.unmark.new.self.marks
          (told c.args.table.now) p c.in-Some.number refl c.reasons-reasons.ensures one
          (omega (arith, c.back-test.true)) under long c.mark_all-in-back.ensures.long c.in-Some.is c.clause_at-in-back.ensures fresh
          (λ v q below. ap (λ o. is_at o q) (c.requires.table v))
          c.mark_all-in-back.ensures.marks c.unmark.ensures.marks)
          c.in_ok-push-2.ensures.items c.back.invariant.way;
      start = c.unmark.ensures.start ∙ c.mark_all-in-back.ensures.start ∙ c.back.invariant.start;
      long = long_after marks c.mark_all-in-back.new.self.marks c.unmark.new.self.marks (p - 1) c.mark_all-in-back.ensures.long c.unmark.ensures.marks ∙ c.back.invariant.long;
      above = omega (arith, c.back-test.true);
      below = omega (arith, c.back.invariant.below);
    }

pub returns-clause-point : goal.returns-clause-point
returns-clause-point c =
    way_over c.args.clauses.now c.args.trail.now.steps c.args.start c.back.place (marked c.back.marks.marks (literals_of c.args.trail.now.steps)) (reverse c.back.hints.items)
    (omega (arith, c.back-test.false, c.back.invariant.above)) c.back.invariant.way

pub returns-clause-long : goal.returns-clause-long
returns-clause-long c = c.back.invariant.long
