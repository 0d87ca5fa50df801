use Rattle.std.proofs.Common.{◌≡◌, ◌∙◌, ℕ, Bool, List, Option, Some, Result, sym, subst}
use Rattle.std.specs.Prelude.{IfOk}
use Rattle.edge.specs.Reads.{Reads}
use Rattle.round_answers.specs.declared.ends.Judged.{Judged}
use Rattle.round_answers.specs.declared.ends.JudgeEnd.{JudgeEnd}
use Rattle.round_answers.specs.Answers.{ShowsText}
use Rattle.round_answers.specs.Ends.{JudgeSays, EndsWith, has_unread}
use Rattle.round_answers.proofs.Told.{told_found, told_exactly, told_unread, told_read}
use Rattle.round_answers.proofs.Shown.{all_shows}
use Rattle.round_answers.proofs.checking.unknown.Goals as goal

pub returns-clause-found : goal.returns-clause-found
returns-clause-found g c =
    let held : Option (List ℕ) = g.H.Shelf.held c.args.shelf.now c.args.name.now in
    subst (λ (r : Result Judged JudgeEnd). JudgeSays c.args.circuit.now held r) (sym c.told_as.ensures)
    (told_found c.args.circuit.now held c.about.result c.requires c.about.ensures.tells)

pub returns-clause-exactly : goal.returns-clause-exactly
returns-clause-exactly g c =
    let held : Option (List ℕ) = g.H.Shelf.held c.args.shelf.now c.args.name.now in
    λ text verdict is h. subst (λ (r : Result Judged JudgeEnd). EndsWith r verdict) (sym c.told_as.ensures)
    (told_exactly c.args.circuit.now held c.about.result c.requires c.about.ensures.tells text verdict is h)

pub returns-clause-shown : goal.returns-clause-shown
returns-clause-shown g c =
    subst (λ (r : Result Judged JudgeEnd). IfOk r (ShowsText c.args.circuit.now)) (sym c.told_as.ensures)
    (all_shows c.args.circuit.now (g.H.Shelf.held c.args.shelf.now c.args.name.now) c.about.result c.about.ensures.tells c.about.ensures.knows)

pub returns-clause-read : goal.returns-clause-read
returns-clause-read g c = λ e. c.about.ensures.read (told_read c.about.result (sym c.told_as.ensures ∙ e))

pub returns-clause-reads : goal.returns-clause-reads
returns-clause-reads g c =
    subst (λ (r : Result Judged JudgeEnd). Reads g.H.Shelf.reads c.args.name.now (has_unread r) c.args.shelf.now c.about.new.shelf) (sym c.told_as.ensures)
    (subst (λ (b : Bool). Reads g.H.Shelf.reads c.args.name.now b c.args.shelf.now c.about.new.shelf) (told_unread c.about.result) c.about.ensures.reads)
