use Rattle.std.proofs.Common.{arith, ◌+◌, true, false, sym, subst}
use Rattle.edge.specs.Reads.{Reads}
use Rattle.sheet_answers.specs.declared.ends.JudgeEnd.{JudgeEnd}
use Rattle.sheet_answers.specs.Ends.{end_unread}
use Rattle.sheet_answers.proofs.HeldTexts.{may_be, reads_within}
use Rattle.sheet_answers.proofs.texts.read_whole.Goals as goal

pub returns-in-Ok-clause-text : goal.returns-in-Ok-clause-text
returns-in-Ok-clause-text g c =
    may_be (g.H.Shelf.held c.args.shelf.now c.args.name.now) c.in-Ok.text.items (9223372036854775807 + 1) (omega (arith, c.in-Ok.text.ok, c.in-Ok.text.small)) c.in-Ok.ensures.text

pub returns-in-Ok-clause-reads : goal.returns-in-Ok-clause-reads
returns-in-Ok-clause-reads g c = reads_within g.H.Shelf.reads c.args.name.now _ false c.args.shelf.now c.read_text.new.shelf c.in-Ok.ensures.reads

pub returns-in-Err-Failed-clause-reads : goal.returns-in-Err-Failed-clause-reads
returns-in-Err-Failed-clause-reads g c =
    let facts = rw c.in-Err-Failed.field-0-is at c.in-Err-Failed.ensures in
    subst (λ (end : JudgeEnd). Reads g.H.Shelf.reads c.args.name.now (end_unread end) c.args.shelf.now c.read_text.new.shelf) (sym c.plain.ensures)
    (reads_within g.H.Shelf.reads c.args.name.now _ true c.args.shelf.now c.read_text.new.shelf facts.reads)

pub returns-in-Err-Memory-clause-reads : goal.returns-in-Err-Memory-clause-reads
returns-in-Err-Memory-clause-reads g c =
    let facts = rw c.in-Err-Memory.field-0-is at c.in-Err-Memory.ensures in
    subst (λ (end : JudgeEnd). Reads g.H.Shelf.reads c.args.name.now (end_unread end) c.args.shelf.now c.read_text.new.shelf) (sym c.plain-in-Err-Memory.ensures)
    (reads_within g.H.Shelf.reads c.args.name.now _ false c.args.shelf.now c.read_text.new.shelf facts.reads)
