use Rattle.std.proofs.Common.{inl, inr}
use Rattle.plain_commands.specs.Statuses.{status_in}
use Rattle.plain_commands.proofs.Judging.{told_form, rose_since}
use Rattle.plain_commands.proofs.Remaking.{held_of_model, read_both}
use Rattle.plain_commands.proofs.Exported.{export_given, export_exact, export_shown, export_silent, export_aloud, export_unread, export_failed, without_gives, without_exact}
use Rattle.plain_commands.proofs.Written.{without_shown}
use Rattle.plain_commands.proofs.commands.exporting.export_item.Goals as goal

pub exported-ending-requires : goal.exported-ending-requires
exported-ending-requires g c = held_of_model c.circuit-circuit.result.now (g.H.Shelf.held c.model_of.new.shelf c.args.answer.now) c.load-end.result c.load-end.ensures.held

pub returns-in-Ok-clause-found : goal.returns-in-Ok-clause-found
returns-in-Ok-clause-found g c =
    let held = g.H.Shelf.held in
    export_given c.args.request.now c.circuit-circuit.result.now c.in-Ok.found (held c.args.shelf.now c.args.model.now) (held c.model_of.new.shelf c.args.answer.now) (held c.args.shelf.now c.args.answer.now)
    c.load-end.result c.exported-ending.result c.circuit-circuit.ensures.circuit (c.in-Ok.ensures.kept c.args.answer.now) c.in-Ok.ensures.found c.load-end.ensures.found c.load-end.ensures.held c.exported-ending.ensures

pub returns-in-Ok-clause-exactly : goal.returns-in-Ok-clause-exactly
returns-in-Ok-clause-exactly g c =
    let held = g.H.Shelf.held in
    export_exact c.args.request.now c.circuit-circuit.result.now c.in-Ok.found (held c.args.shelf.now c.args.model.now) (held c.model_of.new.shelf c.args.answer.now) (held c.args.shelf.now c.args.answer.now)
    c.load-end.result c.exported-ending.result c.circuit-circuit.ensures.circuit (c.in-Ok.ensures.kept c.args.answer.now) c.in-Ok.ensures.found
    c.printed_answers_hold_the_same.ensures.good c.trimmed_answers_are_good.ensures.held c.load-end.ensures.exactly c.load-end.ensures.held c.exported-ending.ensures

pub returns-in-Ok-clause-shown : goal.returns-in-Ok-clause-shown
returns-in-Ok-clause-shown g c = export_shown c.args.request.now c.circuit-circuit.result.now c.load-end.result c.exported-ending.result c.exported-ending.ensures

pub returns-in-Ok-clause-silent : goal.returns-in-Ok-clause-silent
returns-in-Ok-clause-silent g c = export_silent c.args.request.now c.circuit-circuit.result.now c.load-end.result c.exported-ending.result c.exported-ending.ensures

pub returns-in-Ok-clause-aloud : goal.returns-in-Ok-clause-aloud
returns-in-Ok-clause-aloud g c = export_aloud c.args.request.now c.circuit-circuit.result.now c.load-end.result c.exported-ending.result c.exported-ending.ensures

pub returns-in-Ok-clause-read : goal.returns-in-Ok-clause-read
returns-in-Ok-clause-read g c = λ e. inr (
  λ text told. (c.in-Ok.found, told_form _ c.in-Ok.found c.in-Ok.ensures.found text told, tt),
  inl (rose_since _ _ _ (c.in-Ok.ensures.counts c.args.answer.now)
      (c.load-end.ensures.read (export_failed c.args.request.now c.circuit-circuit.result.now c.load-end.result c.exported-ending.result c.exported-ending.ensures e))),
)

pub returns-in-Ok-clause-reads : goal.returns-in-Ok-clause-reads
returns-in-Ok-clause-reads g c =
    read_both g.H.Shelf.reads (g.H.Shelf.held c.args.shelf.now) c.args.model.now c.args.answer.now _ (status_in c.exported-ending.result)
    c.args.shelf.now c.model_of.new.shelf c.load-end.new.shelf
    (export_unread c.args.request.now c.circuit-circuit.result.now c.load-end.result c.exported-ending.result c.exported-ending.ensures)
    c.in-Ok.ensures.reads (λ text told. (c.in-Ok.found, told_form _ c.in-Ok.found c.in-Ok.ensures.found text told, tt)) c.load-end.ensures.reads

pub returns-in-Err-clause-found : goal.returns-in-Err-clause-found
returns-in-Err-clause-found g c =
    let held = g.H.Shelf.held in
    without_gives c.args.request.now (held c.args.shelf.now c.args.model.now) (held c.args.shelf.now c.args.answer.now) c.in-Err.status c.with_text.result c.in-Err.ensures.ended
    c.with_text.ensures.text c.with_text.ensures.aloud

pub returns-in-Err-clause-exactly : goal.returns-in-Err-clause-exactly
returns-in-Err-clause-exactly g c =
    let held = g.H.Shelf.held in
    without_exact c.args.request.now (held c.args.shelf.now c.args.model.now) (held c.args.shelf.now c.args.answer.now) c.in-Err.status (status_in c.with_text.result) c.in-Err.ensures.ended
    c.with_text.ensures.status

pub returns-in-Err-clause-shown : goal.returns-in-Err-clause-shown
returns-in-Err-clause-shown g c =
    without_shown (g.H.Shelf.held c.args.shelf.now c.args.model.now) c.in-Err.status (status_in c.with_text.result) c.in-Err.ensures.ended c.with_text.ensures.status
