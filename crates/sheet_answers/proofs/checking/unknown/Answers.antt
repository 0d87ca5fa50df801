use Rattle.std.proofs.Common.{◌∙◌, ℕ, Bool, List, Option, Result, sym, subst}
use Rattle.std.specs.Prelude.{IfOk}
use Rattle.edge.specs.Reads.{Reads}
use Rattle.sheet_answers.specs.declared.ends.Judged.{Judged}
use Rattle.sheet_answers.specs.declared.ends.JudgeEnd.{JudgeEnd}
use Rattle.sheet_answers.specs.Ends.{ShowsText, JudgeSays, EndsWith, has_unread}
use Rattle.sheet_answers.proofs.Told.{told_found, told_exactly, told_shows, told_unread, told_read}
use Rattle.sheet_answers.proofs.checking.unknown.Goals as goal

pub returns-clause-found : goal.returns-clause-found
returns-clause-found g c =
    let held : Option (List ℕ) = g.H.Shelf.held c.args.shelf.now c.args.name.now in
    subst (λ (r : Result Judged JudgeEnd). JudgeSays c.args.circuit.now held r) (sym c.told_as.ensures)
    (told_found c.args.circuit.now held c.as_sheet.result c.requires c.as_sheet.ensures.tells)

pub returns-clause-exactly : goal.returns-clause-exactly
returns-clause-exactly g c =
    let held : Option (List ℕ) = g.H.Shelf.held c.args.shelf.now c.args.name.now in
    λ text verdict is h. subst (λ (r : Result Judged JudgeEnd). EndsWith r verdict) (sym c.told_as.ensures)
    (told_exactly c.args.circuit.now held c.as_sheet.result c.requires c.as_sheet.ensures.tells text verdict is h)

pub returns-clause-shown : goal.returns-clause-shown
returns-clause-shown g c =
    let held : Option (List ℕ) = g.H.Shelf.held c.args.shelf.now c.args.name.now in
    subst (λ (r : Result Judged JudgeEnd). IfOk r (ShowsText c.args.circuit.now)) (sym c.told_as.ensures)
    (told_shows c.args.circuit.now held c.as_sheet.result c.good_sheets_are_true.ensures.shown c.as_sheet.ensures.tells)

pub returns-clause-read : goal.returns-clause-read
returns-clause-read g c = λ e. c.as_sheet.ensures.read (told_read c.as_sheet.result (sym c.told_as.ensures ∙ e))

pub returns-clause-reads : goal.returns-clause-reads
returns-clause-reads g c =
    subst (λ (r : Result Judged JudgeEnd). Reads g.H.Shelf.reads c.args.name.now (has_unread {T = Judged} r) c.args.shelf.now c.as_sheet.new.shelf) (sym c.told_as.ensures)
    (subst (λ (b : Bool). Reads g.H.Shelf.reads c.args.name.now b c.args.shelf.now c.as_sheet.new.shelf) (told_unread c.as_sheet.result) c.as_sheet.ensures.reads)
