use Rattle.std.proofs.Common.{◌⊎◌, ◌∷◌, [], subst, sym, ◌∙◌, inl, inr}
use Rattle.plain_commands.specs.declared.status.Status.{Status}
use Rattle.plain_commands.specs.ModelGiven.{OfSomeText}
use Rattle.plain_commands.specs.Check.{JudgesAs}
use Rattle.plain_commands.specs.Statuses.{is_read_fault}
use Rattle.plain_commands.specs.Answering.{IsSilent, GivesVerdict, ReadsModelFirst}
use Rattle.plain_commands.proofs.Judging.{told_form, judged, judged_exact, judged_shown, without_model, without_model_exact, read_failed, both_read, rose_since}
use Rattle.fair_top.proofs.commands.checking.check.Goals as goal

pub returns-in-Ok-clause-found : goal.returns-in-Ok-clause-found
returns-in-Ok-clause-found g c =
    let held = g.H.Shelf.held in
    subst (λ (s : Status). JudgesAs OfSomeText (held c.args.shelf.now c.args.model.now) (held c.args.shelf.now c.args.answer.now) s ⊎ IsSilent s) (sym c.checked-status.ensures)
    (judged c.circuit.result.now c.in-Ok.model (held c.args.shelf.now c.args.model.now) (held c.model_of.new.shelf c.args.answer.now) (held c.args.shelf.now c.args.answer.now)
    c.check_answer.result c.circuit.ensures.circuit (c.in-Ok.ensures.kept c.args.answer.now) c.in-Ok.ensures.found c.check_answer.ensures.found)

pub returns-in-Ok-clause-exactly : goal.returns-in-Ok-clause-exactly
returns-in-Ok-clause-exactly g c = λ verdict d.
    let held = g.H.Shelf.held in
    subst (λ (s : Status). GivesVerdict verdict s) (sym c.checked-status.ensures)
    (judged_exact c.circuit.result.now c.in-Ok.model (held c.args.shelf.now c.args.model.now) (held c.model_of.new.shelf c.args.answer.now) (held c.args.shelf.now c.args.answer.now)
    c.check_answer.result c.circuit.ensures.circuit (c.in-Ok.ensures.kept c.args.answer.now) c.in-Ok.ensures.found c.check_answer.ensures.exactly verdict d)

pub returns-in-Ok-clause-shown : goal.returns-in-Ok-clause-shown
returns-in-Ok-clause-shown g c =
    judged_shown c.circuit.result.now c.in-Ok.model (g.H.Shelf.held c.args.shelf.now c.args.model.now) c.check_answer.result c.checked-status.result
    c.circuit.ensures.circuit c.in-Ok.ensures.found c.check_answer.ensures.shown c.checked-status.ensures

pub returns-in-Ok-clause-read : goal.returns-in-Ok-clause-read
returns-in-Ok-clause-read g c = λ e. inr (
  λ text told. (c.in-Ok.model, told_form _ c.in-Ok.model c.in-Ok.ensures.found text told, tt),
  inl (rose_since _ _ _ (c.in-Ok.ensures.counts c.args.answer.now) (c.check_answer.ensures.read (read_failed c.check_answer.result (sym c.checked-status.ensures ∙ e)))),
)

pub returns-in-Ok-clause-reads : goal.returns-in-Ok-clause-reads
returns-in-Ok-clause-reads g c =
    let held = g.H.Shelf.held c.args.shelf.now in
    subst (λ (s : Status). ReadsModelFirst g.H.Shelf.reads held (c.args.model.now ∷ c.args.answer.now ∷ []) (is_read_fault s) c.args.shelf.now c.check_answer.new.shelf) (sym c.checked-status.ensures)
    (both_read g.H.Shelf.reads held c.args.model.now c.args.answer.now c.check_answer.result c.args.shelf.now c.model_of.new.shelf c.check_answer.new.shelf
    c.in-Ok.ensures.reads (λ text told. (c.in-Ok.model, told_form _ c.in-Ok.model c.in-Ok.ensures.found text told, tt)) c.check_answer.ensures.reads)

pub returns-in-Err-clause-found : goal.returns-in-Err-clause-found
returns-in-Err-clause-found g c =
    let held = g.H.Shelf.held in
    without_model (held c.args.shelf.now c.args.model.now) (held c.args.shelf.now c.args.answer.now) c.in-Err.status c.in-Err.ensures.ended

pub returns-in-Err-clause-exactly : goal.returns-in-Err-clause-exactly
returns-in-Err-clause-exactly g c =
    let held = g.H.Shelf.held in
    without_model_exact (held c.args.shelf.now c.args.model.now) (held c.args.shelf.now c.args.answer.now) c.in-Err.status c.in-Err.ensures.ended
