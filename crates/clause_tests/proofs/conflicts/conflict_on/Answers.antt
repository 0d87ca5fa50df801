use Rattle.std.proofs.Common.{◌≡◌, Bool, false, Option, Some, None, refl, ap, sym, subst, ◌∙◌}
use Rattle.std.specs.Prelude.{is_some}
use Rattle.std.proofs.lemmas.Bool.{false≢true}
use Rattle.cdcl_trail.specs.Propagation.{is_complete, IsReasonedTrail}
use Rattle.cdcl_trail.proofs.PrefixLaws.{reasoned_assumed, reasoned_propagated, lower_assumed}
use Rattle.cdcl_trail.proofs.ExtendLaws.{extends_none}
use Rattle.clause_tests.proofs.conflicts.conflict_on.Goals as goal

none_from : {T : Type 0} (o : Option T) (b : Bool) → b ≡ is_some o → b ≡ false → o ≡ None
none_from None b told is = refl
none_from (Some n) b told is = absurd (false≢true (sym is ∙ told))

pub propagate-requires : goal.propagate-requires
propagate-requires c = extends_none c.args.trail.now.taken c.args.db.now.clauses c.requires.taken

pub loop-number-init : goal.loop-number-init
loop-number-init c = record {
  reasoned = reasoned_propagated c.args.db.now.clauses c.args.trail.now.steps c.propagate.new.self.steps c.propagate.ensures.reasons
      (subst (λ xs. IsReasonedTrail c.args.db.now.clauses xs) (sym c.requires.steps) tt);
  complete = c.in_ok-propagate.ensures.complete.0 (none_from c.in_ok-propagate.field-0 c.is_some.result c.is_some.ensures c.if-is_some.false);
  taken = c.in_ok-propagate.ensures.taken;
}

pub learn-requires-clause-reasons : goal.learn-requires-clause-reasons
learn-requires-clause-reasons c =
    reasoned_propagated c.args.db.now.clauses c.assume.new.self.steps c.propagate-in-loop-number.new.self.steps c.propagate-in-loop-number.ensures.reasons
    (reasoned_assumed c.args.db.now.clauses c.loop-number.trail.steps c.assume.new.self.steps c.literal-assumed.result
    c.in_ok-assume.ensures.ok c.loop-number.invariant.reasoned)

pub learn-requires-clause-complete : goal.learn-requires-clause-complete
learn-requires-clause-complete c =
    ap (is_complete c.args.db.now.clauses)
    (lower_assumed c.args.db.now.clauses c.loop-number.trail.steps c.assume.new.self.steps c.propagate-in-loop-number.new.self.steps c.literal-assumed.result
    c.in_ok-assume.ensures.ok c.propagate-in-loop-number.ensures.reasons)
    ∙ c.loop-number.invariant.complete

pub loop-number-preserved : goal.loop-number-preserved
loop-number-preserved c = record {
  reasoned = reasoned_propagated c.args.db.now.clauses c.assume.new.self.steps c.propagate-in-loop-number.new.self.steps c.propagate-in-loop-number.ensures.reasons
      (reasoned_assumed c.args.db.now.clauses c.loop-number.trail.steps c.assume.new.self.steps c.literal-assumed.result
      c.in_ok-assume.ensures.ok c.loop-number.invariant.reasoned);
  complete = c.in_ok-conflict.ensures.complete.0 c.in_default.is;
  taken = c.in_ok-conflict.ensures.taken;
}
