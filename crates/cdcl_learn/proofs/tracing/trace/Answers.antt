use Rattle.std.proofs.Common.{◌≡◌, true, List, ap, sym, subst, ◌∙◌}
use Rattle.std.specs.Prelude.{IfOk}
use Rattle.proof_semantics.specs.Clauses.{negation, has_literal}
use Rattle.proof_semantics.specs.declared.literals.Lit.{Lit}
use Rattle.cdcl_trail.specs.AssignmentOf.{place_in, steps_from}
use Rattle.cdcl_trail.specs.Trails.{Step, literals_of}
use Rattle.cdcl_trail.specs.Propagation.{IsConflict, IsReasonedTrail}
use Rattle.cdcl_learn.specs.Learning.{is_assumed}
use Rattle.cdcl_learn.specs.Walking.{is_at}
use Rattle.cdcl_learn.proofs.LiteralTraceLaws.{steps_own}
use Rattle.cdcl_learn.proofs.tracing.trace.Goals as goal

pub trace_back-requires-clause-conflict : goal.trace_back-requires-clause-conflict
trace_back-requires-clause-conflict c =
    let steps : List Step = c.args.trail.now.steps in
    let own : steps ≡ steps_from c.literals.result.now c.reasons.result.now =
    sym (ap (λ ls. steps_from ls c.reasons.result.now) c.literals.ensures.value ∙ ap (steps_from (literals_of steps)) c.reasons.ensures ∙ steps_own steps) in
    subst (λ xs. IsConflict c.as_slice.result.now xs c.args.conflict) own
    (subst (λ cs. IsConflict cs steps c.args.conflict) (sym c.as_slice.ensures) c.requires.conflict)

pub trace_back-requires-clause-reasons : goal.trace_back-requires-clause-reasons
trace_back-requires-clause-reasons c =
    let steps : List Step = c.args.trail.now.steps in
    let own : steps ≡ steps_from c.literals.result.now c.reasons.result.now =
    sym (ap (λ ls. steps_from ls c.reasons.result.now) c.literals.ensures.value ∙ ap (steps_from (literals_of steps)) c.reasons.ensures ∙ steps_own steps) in
    subst (λ xs. IsReasonedTrail c.as_slice.result.now xs) own
    (subst (λ cs. IsReasonedTrail cs steps) (sym c.as_slice.ensures) c.requires.reasons)

pub returns-clause-assumed : goal.returns-clause-assumed
returns-clause-assumed c =
    let steps : List Step = c.args.trail.now.steps in
    let own : steps_from c.literals.result.now c.reasons.result.now ≡ steps =
    ap (λ ls. steps_from ls c.reasons.result.now) c.literals.ensures.value ∙ ap (steps_from (literals_of steps)) c.reasons.ensures ∙ steps_own steps in
    subst (λ xs. IfOk c.trace_back.result (λ traced. (a : Lit) → has_literal traced.clause a ≡ true → is_assumed xs (negation a) ≡ true)) own c.trace_back.ensures.assumed

pub trace_back-requires-clause-table : goal.trace_back-requires-clause-table
trace_back-requires-clause-table c =
    λ v q below. ap (λ o. is_at o q) (c.places-table.ensures v) ∙ ap (λ ls. is_at (place_in ls v) q) (sym c.literals.ensures.value)
