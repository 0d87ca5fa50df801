use Rattle.std.proofs.Common.{rules, ◌≡◌, ◌∙◌, ℕ, Bool, List, Option, Result, sym, subst}
use Rattle.std.specs.Prelude.{IsTrue, IsFalse, IfOk}
use Rattle.edge.specs.Reads.{Reads}
use Rattle.answer_lines.proofs.ReadLaws.{reads_after}
use Rattle.sheet_answers.specs.declared.ends.Judged.{Judged}
use Rattle.sheet_answers.specs.declared.ends.JudgeEnd.{JudgeEnd}
use Rattle.sheet_answers.specs.Ends.{ShowsText, JudgeSays, EndsWith, has_unread}
use Rattle.sheet_answers.specs.First.{unknown, IsUnknown}
use Rattle.sheet_answers.proofs.Statuses.{known_found, known_exactly, known_shows, known_unread, known_read, unknown_unread, unknown_of}
use Rattle.sheet_answers.proofs.checking.check_answer.Goals as goal

pub unknown-requires : goal.unknown-requires
unknown-requires g c =
    let held : Option (List ℕ) = g.H.Shelf.held c.args.shelf.now c.args.name.now in
    let yes : IsTrue c.is_unknown.result = search rules in
    let is : c.check_answer-ended.result ≡ unknown = c.is_unknown.ensures.yes yes in
    subst (λ (h : Option (List ℕ)). IsUnknown c.args.circuit.now h) (sym (c.check_answer-ended.ensures.kept c.args.name.now))
    (unknown_of c.args.circuit.now held c.check_answer-ended.result is c.check_answer-ended.ensures.found c.check_answer-ended.ensures.exactly)

pub returns-then-is_unknown-clause-found : goal.returns-then-is_unknown-clause-found
returns-then-is_unknown-clause-found g c =
    subst (λ (h : Option (List ℕ)). JudgeSays c.args.circuit.now h c.unknown.result) (c.check_answer-ended.ensures.kept c.args.name.now) c.unknown.ensures.found

pub returns-then-is_unknown-clause-exactly : goal.returns-then-is_unknown-clause-exactly
returns-then-is_unknown-clause-exactly g c =
    λ text verdict is h. c.unknown.ensures.exactly text verdict (c.check_answer-ended.ensures.kept c.args.name.now ∙ is) h

pub returns-then-is_unknown-clause-reads : goal.returns-then-is_unknown-clause-reads
returns-then-is_unknown-clause-reads g c =
    let yes : IsTrue c.is_unknown.result = search rules in
    let is : c.check_answer-ended.result ≡ unknown = c.is_unknown.ensures.yes yes in
    reads_after g.H.Shelf.reads c.args.name.now (has_unread {T = Judged} c.unknown.result) c.args.shelf.now c.check_answer-ended.new.shelf c.unknown.new.shelf
    (subst (λ (b : Bool). Reads g.H.Shelf.reads c.args.name.now b c.args.shelf.now c.check_answer-ended.new.shelf) (unknown_unread c.check_answer-ended.result is) c.check_answer-ended.ensures.reads)
    c.unknown.ensures.reads

pub returns-clause-found : goal.returns-clause-found
returns-clause-found g c =
    let held : Option (List ℕ) = g.H.Shelf.held c.args.shelf.now c.args.name.now in
    let no_other : IsFalse c.is_unknown.result = search rules in
    subst (λ (r : Result Judged JudgeEnd). JudgeSays c.args.circuit.now held r) (sym c.as_text.ensures)
    (known_found c.args.circuit.now held c.check_answer-ended.result (c.is_unknown.ensures.no no_other) c.check_answer-ended.ensures.found)

pub returns-clause-exactly : goal.returns-clause-exactly
returns-clause-exactly g c =
    let held : Option (List ℕ) = g.H.Shelf.held c.args.shelf.now c.args.name.now in
    let no_other : IsFalse c.is_unknown.result = search rules in
    λ text verdict is h. subst (λ (r : Result Judged JudgeEnd). EndsWith r verdict) (sym c.as_text.ensures)
    (known_exactly c.args.circuit.now held c.check_answer-ended.result (c.is_unknown.ensures.no no_other) c.check_answer-ended.ensures.exactly text verdict is h)

pub returns-clause-shown : goal.returns-clause-shown
returns-clause-shown g c =
    subst (λ (r : Result Judged JudgeEnd). IfOk r (ShowsText c.args.circuit.now)) (sym c.as_text.ensures)
    (known_shows c.args.circuit.now c.check_answer-ended.result c.check_answer-ended.ensures.shown)

pub returns-clause-read : goal.returns-clause-read
returns-clause-read g c = λ e. c.check_answer-ended.ensures.read (known_read c.check_answer-ended.result (sym c.as_text.ensures ∙ e))

pub returns-clause-reads : goal.returns-clause-reads
returns-clause-reads g c =
    subst (λ (r : Result Judged JudgeEnd). Reads g.H.Shelf.reads c.args.name.now (has_unread {T = Judged} r) c.args.shelf.now c.check_answer-ended.new.shelf) (sym c.as_text.ensures)
    (subst (λ (b : Bool). Reads g.H.Shelf.reads c.args.name.now b c.args.shelf.now c.check_answer-ended.new.shelf) (known_unread c.check_answer-ended.result) c.check_answer-ended.ensures.reads)
