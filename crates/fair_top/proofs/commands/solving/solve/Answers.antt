use Rattle.std.proofs.Common.{◌≡◌, ◌∷◌, ◌∙◌, Bool, false, sym, ap, subst}
use Rattle.std.proofs.lemmas.Bool.{false≢true}
use Rattle.std.specs.Prelude.{option_map}
use Rattle.given_entries.specs.Beginning.{told_of}
use Rattle.fair_top.specs.Beginnings.{circuit_in, given_in}
use Rattle.command_lines.specs.Commands.{name_in}
use Rattle.fair_top.specs.Headline.{FailedFor}
use Rattle.plain_commands.specs.Answering.{ReadsModelFirst}
use Rattle.plain_commands.specs.Statuses.{status_in, is_read_fault}
use Rattle.fair_top.proofs.Decided.{solved_gives, solved_shown, solved_asked, solved_aloud, solved_read, unsearched_gives, unsearched_shown, unsearched_asked}
use Rattle.fair_top.proofs.Begun.{read_of_err}
use Rattle.plain_commands.proofs.Written.{still}
use Rattle.fair_top.proofs.commands.solving.solve.Goals as goal

pub returns-in-Ok-clause-found : goal.returns-in-Ok-clause-found
returns-in-Ok-clause-found g c =
    let held = g.H.Shelf.held c.args.shelf.now in
    solved_gives (held c.args.model.now) (told_of held (option_map (λ name. name.now) c.args.resume)) c.args.request.now c.in-Ok.beginning c.run_for.result c.in-Ok.ensures.asked c.run_for.ensures.found

pub returns-in-Ok-clause-aloud : goal.returns-in-Ok-clause-aloud
returns-in-Ok-clause-aloud g c = solved_aloud (circuit_in c.in-Ok.beginning) c.args.request.now (given_in c.in-Ok.beginning) c.run_for.result c.run_for.ensures.found

pub returns-in-Ok-clause-exactly : goal.returns-in-Ok-clause-exactly
returns-in-Ok-clause-exactly g c = λ verdict d. absurd (c.in-Ok.ensures.asked.undecided verdict d)

pub returns-in-Ok-clause-shown : goal.returns-in-Ok-clause-shown
returns-in-Ok-clause-shown g c =
    let held = g.H.Shelf.held c.args.shelf.now in
    solved_shown (held c.args.model.now) (told_of held (option_map (λ name. name.now) c.args.resume)) c.args.request.now c.in-Ok.beginning c.run_for.result c.in-Ok.ensures.asked c.run_for.ensures.found
    c.run_for.ensures.ended

pub returns-in-Ok-clause-solved : goal.returns-in-Ok-clause-solved
returns-in-Ok-clause-solved g c = λ asked.
    solved_asked (circuit_in c.in-Ok.beginning) c.args.request.now (given_in c.in-Ok.beginning) c.run_for.result c.run_for.ensures.found c.run_for.ensures.ended

pub returns-in-Err-clause-found : goal.returns-in-Err-clause-found
returns-in-Err-clause-found g c =
    let held = g.H.Shelf.held c.args.shelf.now in
    unsearched_gives (held c.args.model.now) (told_of held (option_map (λ name. name.now) c.args.resume)) c.args.request.now c.in-Err.status c.with_text.result c.in-Err.ensures.ended
    c.with_text.ensures.text c.with_text.ensures.aloud

pub returns-in-Err-clause-exactly : goal.returns-in-Err-clause-exactly
returns-in-Err-clause-exactly g c = λ verdict d. still verdict c.in-Err.status (status_in c.with_text.result) c.with_text.ensures.status (c.in-Err.ensures.ended.exactly verdict d)

pub returns-in-Err-clause-shown : goal.returns-in-Err-clause-shown
returns-in-Err-clause-shown g c =
    let held = g.H.Shelf.held c.args.shelf.now in
    unsearched_shown (held c.args.model.now) (told_of held (option_map (λ name. name.now) c.args.resume)) c.args.request.now c.in-Err.status (status_in c.with_text.result) c.in-Err.ensures.ended
    c.with_text.ensures.status

pub returns-in-Err-clause-solved : goal.returns-in-Err-clause-solved
returns-in-Err-clause-solved g c =
    let held = g.H.Shelf.held c.args.shelf.now in
    unsearched_asked (held c.args.model.now) (told_of held (option_map (λ name. name.now) c.args.resume)) c.args.request.now c.in-Err.status (status_in c.with_text.result) c.in-Err.ensures.ended
    c.with_text.ensures.status

pub returns-in-Ok-clause-there : goal.returns-in-Ok-clause-there
returns-in-Ok-clause-there g c = λ e.
    let unread : is_read_fault (status_in c.run_for.result) ≡ false =
    solved_read (circuit_in c.in-Ok.beginning) c.args.request.now (given_in c.in-Ok.beginning) c.run_for.result c.run_for.ensures.found c.run_for.ensures.ended in
    absurd {A = FailedFor (g.H.Shelf.held c.args.shelf.now) c.args.model.now c.args.request.now (g.H.Shelf.faults c.args.shelf.now) (g.H.Shelf.faults c.beginning_of.new.shelf)}
    (false≢true (sym unread ∙ ap is_read_fault e))

pub returns-in-Err-clause-there : goal.returns-in-Err-clause-there
returns-in-Err-clause-there g c = λ e. c.in-Err.ensures.there (read_of_err c.in-Err.status (status_in c.with_text.result) c.with_text.ensures.status e)

pub returns-in-Ok-clause-reads : goal.returns-in-Ok-clause-reads
returns-in-Ok-clause-reads g c =
    let unread : is_read_fault (status_in c.run_for.result) ≡ false =
    solved_read (circuit_in c.in-Ok.beginning) c.args.request.now (given_in c.in-Ok.beginning) c.run_for.result c.run_for.ensures.found c.run_for.ensures.ended in
    subst (λ (failed : Bool).
    ReadsModelFirst g.H.Shelf.reads (g.H.Shelf.held c.args.shelf.now) (c.args.model.now ∷ name_in (option_map (λ name. name.now) c.args.resume)) failed c.args.shelf.now c.beginning_of.new.shelf)
    (sym unread) c.in-Ok.ensures.reads

pub returns-in-Err-clause-reads : goal.returns-in-Err-clause-reads
returns-in-Err-clause-reads g c =
    subst (λ (failed : Bool).
    ReadsModelFirst g.H.Shelf.reads (g.H.Shelf.held c.args.shelf.now) (c.args.model.now ∷ name_in (option_map (λ name. name.now) c.args.resume)) failed c.args.shelf.now c.beginning_of.new.shelf)
    (sym c.with_text.ensures.fault) c.in-Err.ensures.reads
