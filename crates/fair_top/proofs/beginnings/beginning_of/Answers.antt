use Rattle.std.proofs.Common.{inr}
use Rattle.std.specs.Prelude.{option_map}
use Rattle.given_entries.specs.Beginning.{told_of}
use Rattle.plain_commands.specs.Statuses.{has_read_fault}
use Rattle.plain_commands.proofs.Judging.{told_form}
use Rattle.fair_top.proofs.Begun.{told_again, beginnings_now, before_now, before_model, failed_of_answer, asked_there, read_named}
use Rattle.fair_top.proofs.beginnings.beginning_of.Goals as goal

pub returns-in-Ok-clause-asked : goal.returns-in-Ok-clause-asked
returns-in-Ok-clause-asked g c =
    let held = g.H.Shelf.held c.args.shelf.now in
    let now = g.H.Shelf.held c.model_of.new.shelf in
    let resume = option_map (λ name. name.now) c.args.resume in
    beginnings_now c.into_circuit.result c.in-Ok.found (held c.args.model.now) (told_of now resume) (told_of held resume) c.args.request.now c.beginning_about.result
    c.into_circuit.ensures (told_again held now resume c.in-Ok.ensures.kept) c.in-Ok.ensures.found c.beginning_about.ensures.refused c.beginning_about.ensures.asked

pub returns-in-Ok-clause-ended : goal.returns-in-Ok-clause-ended
returns-in-Ok-clause-ended g c =
    let held = g.H.Shelf.held c.args.shelf.now in
    let now = g.H.Shelf.held c.model_of.new.shelf in
    let resume = option_map (λ name. name.now) c.args.resume in
    before_now c.into_circuit.result c.in-Ok.found (held c.args.model.now) (told_of now resume) (told_of held resume) c.args.request.now c.beginning_about.result
    c.into_circuit.ensures (told_again held now resume c.in-Ok.ensures.kept) c.in-Ok.ensures.found c.beginning_about.ensures.refused c.beginning_about.ensures.accepted
    c.beginning_about.ensures.ended

pub returns-in-Ok-clause-read : goal.returns-in-Ok-clause-read
returns-in-Ok-clause-read g c = λ e.
    failed_of_answer (g.H.Shelf.held c.args.shelf.now) c.args.model.now (option_map (λ name. name.now) c.args.resume)
    (g.H.Shelf.faults c.args.shelf.now) (g.H.Shelf.faults c.model_of.new.shelf) (g.H.Shelf.faults c.beginning_about.new.shelf)
    (λ text told. (c.in-Ok.found, told_form _ c.in-Ok.found c.in-Ok.ensures.found text told, tt)) c.in-Ok.ensures.counts (c.beginning_about.ensures.read e)

pub returns-in-Ok-clause-there : goal.returns-in-Ok-clause-there
returns-in-Ok-clause-there g c = λ e.
    let held = g.H.Shelf.held c.args.shelf.now in
    inr (asked_there c.into_circuit.result c.in-Ok.found (held c.args.model.now) (told_of (g.H.Shelf.held c.model_of.new.shelf) (option_map (λ name. name.now) c.args.resume))
    c.args.request.now c.beginning_about.result c.into_circuit.ensures c.in-Ok.ensures.found c.beginning_about.ensures.ended e)

pub returns-in-Ok-clause-reads : goal.returns-in-Ok-clause-reads
returns-in-Ok-clause-reads g c =
    read_named g.H.Shelf.reads (g.H.Shelf.held c.args.shelf.now) c.args.model.now (option_map (λ name. name.now) c.args.resume) (has_read_fault c.beginning_about.result)
    c.args.shelf.now c.model_of.new.shelf c.beginning_about.new.shelf c.in-Ok.ensures.reads
    (λ text told. (c.in-Ok.found, told_form _ c.in-Ok.found c.in-Ok.ensures.found text told, tt)) c.beginning_about.ensures.reads

pub returns-in-Err-clause-ended : goal.returns-in-Err-clause-ended
returns-in-Err-clause-ended g c =
    let held = g.H.Shelf.held c.args.shelf.now in
    before_model (held c.args.model.now) (told_of held (option_map (λ name. name.now) c.args.resume)) c.args.request.now c.in-Err.status c.in-Err.ensures.ended
