use Rattle.std.proofs.Common.{◌≤◌, ◌++◌, ◌∷◌, [], None, length, take, refl, ap, sym, subst, ◌∙◌}
use Rattle.std.specs.Prelude.{slice_get}
use Rattle.std.specs.Option.{unwrap_or, option_flatten}
use Rattle.proof_semantics.specs.Clauses.{negation}
use Rattle.cdcl_trail.specs.Places.{told}
use Rattle.cdcl_trail.specs.Trails.{literals_of, once}
use Rattle.cdcl_trail.specs.Propagation.{IsReasonedTrail}
use Rattle.cdcl_learn.specs.Walking.{is_at}
use Rattle.cdcl_learn.proofs.MarkLaws.{place_cut}
use Rattle.cdcl_learn.proofs.LastLaws.{shorter}
use Rattle.cdcl_learn.proofs.LiteralTraceLaws.{stands_at, stands_told, cut_at, place_within, on_traced}
use Rattle.cdcl_learn.proofs.tracing.trace_literal.Goals as goal

pub front_literals-requires : goal.front_literals-requires
front_literals-requires c =
    subst (λ ls. c.place_of-place.result ≤ length ls) (sym c.literals.ensures.value)
    (place_within c.args.trail.now.steps (literals_of c.args.trail.now.steps) c.place_of-place.result (negation c.args.literal) refl
    (stands_told c.args.trail.now.steps c.args.literal c.place_of-place.result (told c.places-table.result c.args.literal.var) c.place_of-place.ensures (c.places-table.ensures c.args.literal.var) c.requires.falsified)).0

pub front_reasons-requires : goal.front_reasons-requires
front_reasons-requires c =
    subst (λ rs. c.place_of-place.result ≤ length rs) (sym c.reasons-2.ensures)
    (place_within c.args.trail.now.steps (literals_of c.args.trail.now.steps) c.place_of-place.result (negation c.args.literal) refl
    (stands_told c.args.trail.now.steps c.args.literal c.place_of-place.result (told c.places-table.result c.args.literal.var) c.place_of-place.ensures (c.places-table.ensures c.args.literal.var) c.requires.falsified)).1

pub trace_back-requires-clause-beside : goal.trace_back-requires-clause-beside
trace_back-requires-clause-beside c =
    shorter c.front_literals.result.now c.front_reasons.result.now c.args.literal
    ((cut_at c.as_slice.result.now c.args.trail.now.steps c.args.literal c.place_of-place.result c.reason_at-number.result (c.front_literals.result.now ++ c.args.literal ∷ []) (c.front_reasons.result.now ++ None ∷ [])
    (stands_at c.args.trail.now.steps c.place_of-place.result (negation c.args.literal)
    (stands_told c.args.trail.now.steps c.args.literal c.place_of-place.result (told c.places-table.result c.args.literal.var) c.place_of-place.ensures (c.places-table.ensures c.args.literal.var) c.requires.falsified))
    (ap once (sym c.literals.ensures.value) ∙ c.literals.ensures.once)
    (subst (λ cs. IsReasonedTrail cs c.args.trail.now.steps) (sym c.as_slice.ensures) c.requires.reasons) c.requires.forced
    (c.reason_at-number.ensures ∙ ap (λ rs. unwrap_or (option_flatten (slice_get rs c.place_of-place.result)) 0) c.reasons.ensures)
    (ap (λ ls. ls ++ c.args.literal ∷ []) (c.front_literals.ensures ∙ ap (take c.place_of-place.result) c.literals.ensures.value))
    (ap (λ rs. rs ++ None ∷ []) (c.front_reasons.ensures ∙ ap (take c.place_of-place.result) c.reasons-2.ensures))).beside)

pub trace_back-requires-clause-once : goal.trace_back-requires-clause-once
trace_back-requires-clause-once c =
    (cut_at c.as_slice.result.now c.args.trail.now.steps c.args.literal c.place_of-place.result c.reason_at-number.result (c.front_literals.result.now ++ c.args.literal ∷ []) (c.front_reasons.result.now ++ None ∷ [])
    (stands_at c.args.trail.now.steps c.place_of-place.result (negation c.args.literal)
    (stands_told c.args.trail.now.steps c.args.literal c.place_of-place.result (told c.places-table.result c.args.literal.var) c.place_of-place.ensures (c.places-table.ensures c.args.literal.var) c.requires.falsified))
    (ap once (sym c.literals.ensures.value) ∙ c.literals.ensures.once)
    (subst (λ cs. IsReasonedTrail cs c.args.trail.now.steps) (sym c.as_slice.ensures) c.requires.reasons) c.requires.forced
    (c.reason_at-number.ensures ∙ ap (λ rs. unwrap_or (option_flatten (slice_get rs c.place_of-place.result)) 0) c.reasons.ensures)
    (ap (λ ls. ls ++ c.args.literal ∷ []) (c.front_literals.ensures ∙ ap (take c.place_of-place.result) c.literals.ensures.value))
    (ap (λ rs. rs ++ None ∷ []) (c.front_reasons.ensures ∙ ap (take c.place_of-place.result) c.reasons-2.ensures))).apart

pub trace_back-requires-clause-conflict : goal.trace_back-requires-clause-conflict
trace_back-requires-clause-conflict c =
    (cut_at c.as_slice.result.now c.args.trail.now.steps c.args.literal c.place_of-place.result c.reason_at-number.result (c.front_literals.result.now ++ c.args.literal ∷ []) (c.front_reasons.result.now ++ None ∷ [])
    (stands_at c.args.trail.now.steps c.place_of-place.result (negation c.args.literal)
    (stands_told c.args.trail.now.steps c.args.literal c.place_of-place.result (told c.places-table.result c.args.literal.var) c.place_of-place.ensures (c.places-table.ensures c.args.literal.var) c.requires.falsified))
    (ap once (sym c.literals.ensures.value) ∙ c.literals.ensures.once)
    (subst (λ cs. IsReasonedTrail cs c.args.trail.now.steps) (sym c.as_slice.ensures) c.requires.reasons) c.requires.forced
    (c.reason_at-number.ensures ∙ ap (λ rs. unwrap_or (option_flatten (slice_get rs c.place_of-place.result)) 0) c.reasons.ensures)
    (ap (λ ls. ls ++ c.args.literal ∷ []) (c.front_literals.ensures ∙ ap (take c.place_of-place.result) c.literals.ensures.value))
    (ap (λ rs. rs ++ None ∷ []) (c.front_reasons.ensures ∙ ap (take c.place_of-place.result) c.reasons-2.ensures))).conflict

pub trace_back-requires-clause-reasons : goal.trace_back-requires-clause-reasons
trace_back-requires-clause-reasons c =
    (cut_at c.as_slice.result.now c.args.trail.now.steps c.args.literal c.place_of-place.result c.reason_at-number.result (c.front_literals.result.now ++ c.args.literal ∷ []) (c.front_reasons.result.now ++ None ∷ [])
    (stands_at c.args.trail.now.steps c.place_of-place.result (negation c.args.literal)
    (stands_told c.args.trail.now.steps c.args.literal c.place_of-place.result (told c.places-table.result c.args.literal.var) c.place_of-place.ensures (c.places-table.ensures c.args.literal.var) c.requires.falsified))
    (ap once (sym c.literals.ensures.value) ∙ c.literals.ensures.once)
    (subst (λ cs. IsReasonedTrail cs c.args.trail.now.steps) (sym c.as_slice.ensures) c.requires.reasons) c.requires.forced
    (c.reason_at-number.ensures ∙ ap (λ rs. unwrap_or (option_flatten (slice_get rs c.place_of-place.result)) 0) c.reasons.ensures)
    (ap (λ ls. ls ++ c.args.literal ∷ []) (c.front_literals.ensures ∙ ap (take c.place_of-place.result) c.literals.ensures.value))
    (ap (λ rs. rs ++ None ∷ []) (c.front_reasons.ensures ∙ ap (take c.place_of-place.result) c.reasons-2.ensures))).reasoned

pub returns-clause-assumed : goal.returns-clause-assumed
returns-clause-assumed c =
    on_traced c.args.trail.now.steps c.args.literal c.place_of-place.result (c.front_literals.result.now ++ c.args.literal ∷ []) (c.front_reasons.result.now ++ None ∷ []) c.trace_back.result
    (stands_at c.args.trail.now.steps c.place_of-place.result (negation c.args.literal)
    (stands_told c.args.trail.now.steps c.args.literal c.place_of-place.result (told c.places-table.result c.args.literal.var) c.place_of-place.ensures (c.places-table.ensures c.args.literal.var) c.requires.falsified))
    (ap (λ ls. ls ++ c.args.literal ∷ []) (c.front_literals.ensures ∙ ap (take c.place_of-place.result) c.literals.ensures.value))
    (ap (λ rs. rs ++ None ∷ []) (c.front_reasons.ensures ∙ ap (take c.place_of-place.result) c.reasons-2.ensures))
    c.trace_back.ensures.assumed

pub trace_back-requires-clause-table : goal.trace_back-requires-clause-table
trace_back-requires-clause-table c =
    λ v q below.
    ap (λ o. is_at o q) (c.places-table.ensures v)
    ∙ place_cut (literals_of c.args.trail.now.steps) (c.front_literals.result.now ++ c.args.literal ∷ []) c.place_of-place.result c.args.literal
    (stands_told c.args.trail.now.steps c.args.literal c.place_of-place.result (told c.places-table.result c.args.literal.var) c.place_of-place.ensures (c.places-table.ensures c.args.literal.var) c.requires.falsified)
    (ap (λ ls. ls ++ c.args.literal ∷ []) (c.front_literals.ensures ∙ ap (take c.place_of-place.result) c.literals.ensures.value))
    v q below
