use Rattle.std.proofs.Common.{sym, ◌∙◌}
use Rattle.proof_semantics.specs.Proofs.{clause_at}
use Rattle.lrat.proofs.HintLaws.{hint_passed, hint_failed}
use Rattle.lrat.proofs.propagation.hints_fault.Goals as goal

pub returns-then-is_some : goal.returns-then-is_some
returns-then-is_some c =
    hint_failed (clause_at c.args.store.now.held) c.loop-hint.marks c.follow.new.marks c.in-Some.firsts.now c.in-Some.last.now _ c.loop-hint.hint-index
    c.in_ok-fault.fault _ c.loop-hint-test.true c.in_ok-fault.ensures (sym c.is_some.ensures ∙ c.if-is_some.true) c.loop-hint.invariant

pub loop-hint-preserved : goal.loop-hint-preserved
loop-hint-preserved c =
    hint_passed (clause_at c.args.store.now.held) c.loop-hint.marks c.follow.new.marks c.in-Some.firsts.now c.in-Some.last.now _ c.loop-hint.hint-index
    c.in_ok-fault.fault _ c.loop-hint-test.true c.in_ok-fault.ensures (sym c.is_some.ensures ∙ c.if-is_some.false) c.loop-hint.invariant
