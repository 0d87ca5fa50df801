use Rattle.std.proofs.Common.{◌≡◌, true, drop, sym, subst, ◌∙◌}
use Rattle.proof_semantics.specs.Clauses.{clauses_value, values_of}
use Rattle.ic3_questions.proofs.TrialLaws.{slice_behind}
use Rattle.ic3_questions.proofs.trials.hold_from.Goals as goal

pub returns : goal.returns
returns c = λ h.
    subst (λ clauses. clauses_value (values_of c.args.values.now) (drop c.args.place clauses) ≡ true) c.as_slice-clauses.ensures
    (sym (slice_behind (values_of c.args.values.now) c.as_slice-clauses.result.now c.args.place) ∙ (sym c.all_hold.ensures ∙ h))
