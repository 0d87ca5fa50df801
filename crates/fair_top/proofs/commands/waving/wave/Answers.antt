use Rattle.std.proofs.Common.{inl, inr}
use Rattle.plain_commands.specs.Statuses.{status_in}
use Rattle.plain_commands.proofs.Judging.{told_form, rose_since}
use Rattle.fair_top.proofs.Dumped.{waves_given, waves_exact, never_shown, model_first, without_gives, without_exact}
use Rattle.plain_commands.proofs.Written.{without_shown}
use Rattle.fair_top.proofs.commands.waving.wave.Goals as goal

pub returns-in-Ok-clause-found : goal.returns-in-Ok-clause-found
returns-in-Ok-clause-found g c =
    let held = g.H.Shelf.held in
    waves_given c.in-Ok.found (held c.args.shelf.now c.args.model.now) (held c.model_of.new.shelf c.args.answer.now) (held c.args.shelf.now c.args.answer.now)
    c.args.property c.waves_of-ending.result (c.in-Ok.ensures.kept c.args.answer.now) c.in-Ok.ensures.found c.waves_of-ending.ensures.found

pub returns-in-Ok-clause-exactly : goal.returns-in-Ok-clause-exactly
returns-in-Ok-clause-exactly g c =
    let held = g.H.Shelf.held in
    waves_exact c.in-Ok.found (held c.args.shelf.now c.args.model.now) (held c.model_of.new.shelf c.args.answer.now) (held c.args.shelf.now c.args.answer.now)
    c.args.property (status_in c.waves_of-ending.result) (c.in-Ok.ensures.kept c.args.answer.now) c.in-Ok.ensures.found c.waves_of-ending.ensures.exactly

pub returns-in-Ok-clause-shown : goal.returns-in-Ok-clause-shown
returns-in-Ok-clause-shown g c = λ accepted e. never_shown accepted (status_in c.waves_of-ending.result) c.waves_of-ending.ensures.hidden e

pub returns-in-Ok-clause-read : goal.returns-in-Ok-clause-read
returns-in-Ok-clause-read g c = λ e. inr (
  λ text told. (c.in-Ok.found, told_form _ c.in-Ok.found c.in-Ok.ensures.found text told, tt),
  inl (rose_since _ _ _ (c.in-Ok.ensures.counts c.args.answer.now) (c.waves_of-ending.ensures.read e)),
)

pub returns-in-Ok-clause-reads : goal.returns-in-Ok-clause-reads
returns-in-Ok-clause-reads g c =
    model_first g.H.Shelf.reads (g.H.Shelf.held c.args.shelf.now) c.args.model.now c.args.answer.now (status_in c.waves_of-ending.result)
    c.args.shelf.now c.model_of.new.shelf c.waves_of-ending.new.shelf c.in-Ok.ensures.reads
    (λ text told. (c.in-Ok.found, told_form _ c.in-Ok.found c.in-Ok.ensures.found text told, tt)) c.waves_of-ending.ensures.reads

pub returns-in-Err-clause-found : goal.returns-in-Err-clause-found
returns-in-Err-clause-found g c =
    let held = g.H.Shelf.held in
    without_gives (held c.args.shelf.now c.args.model.now) (held c.args.shelf.now c.args.answer.now) c.args.property c.in-Err.status c.with_text.result c.in-Err.ensures.ended
    c.with_text.ensures.text c.with_text.ensures.aloud

pub returns-in-Err-clause-exactly : goal.returns-in-Err-clause-exactly
returns-in-Err-clause-exactly g c =
    let held = g.H.Shelf.held in
    without_exact (held c.args.shelf.now c.args.model.now) (held c.args.shelf.now c.args.answer.now) c.args.property c.in-Err.status (status_in c.with_text.result) c.in-Err.ensures.ended
    c.with_text.ensures.status

pub returns-in-Err-clause-shown : goal.returns-in-Err-clause-shown
returns-in-Err-clause-shown g c =
    without_shown (g.H.Shelf.held c.args.shelf.now c.args.model.now) c.in-Err.status (status_in c.with_text.result) c.in-Err.ensures.ended c.with_text.ensures.status
