use Rattle.std.proofs.Common.{◌-◌, [], ◌∷◌, ◌++◌, take, drop, refl, ap, sym, ◌∙◌, arith}
use Rattle.cdcl_learn.proofs.MarkLaws.{marked_past, marked_skips, marked_takes}
use Rattle.cdcl_learn.proofs.marking.push_marked.Goals as goal

pub returns-then-not-has_mark : goal.returns-then-not-has_mark
returns-then-not-has_mark c =
    marked_past c.args.marks.now (take (c.args.end - c.args.start) (drop c.args.start c.args.marks.now)) c.args.literals.now c.args.clause.now c.args.start c.args.end c.has_mark.result
    c.requires.before refl c.has_mark.ensures c.if-not-has_mark.true c.requires.clause

pub loop-place-preserved-then-not-is_marked : goal.loop-place-preserved-then-not-is_marked
loop-place-preserved-then-not-is_marked c =
    marked_skips c.args.marks.now c.args.literals.now c.loop-place.place c.loop-place.clause (omega (arith, c.loop-place-test.true, c.requires.within, c.requires.long)) c.requires.long
    (sym c.is_marked.ensures ∙ c.if-not-is_marked.true) c.loop-place.invariant

pub loop-place-preserved : goal.loop-place-preserved
loop-place-preserved c =
    marked_takes c.args.marks.now c.args.literals.now c.loop-place.place c.loop-place.clause c.push.new.self (omega (arith, c.loop-place-test.true, c.requires.within, c.requires.long)) c.requires.long
    (sym c.is_marked.ensures ∙ c.if-not-is_marked.false) c.loop-place.invariant (c.in_ok-push.ensures.ok ∙ ap (λ a. c.loop-place.clause ++ a ∷ []) c.negation.ensures)
