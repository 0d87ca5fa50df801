use Rattle.std.proofs.Common.{arith}
use Rattle.sheet_answers.proofs.HeldTexts.{no_text, good_found, good_exactly, refused_found, refused_exactly}
use Rattle.sheet_answers.proofs.texts.with_lines.Goals as goal

pub unreachable-requires : goal.unreachable-requires
unreachable-requires c =
    let facts = rw c.in-Ok-Text.field-0-is at c.in-Ok-Text.ensures in
    no_text c.args.circuit.now c.args.text.items c.args.lines c.requires.lines (omega (arith, c.args.text.ok, c.args.text.small)) c.requires.sheet _ facts.found

pub returns-in-Ok-Sheet-clause-found : goal.returns-in-Ok-Sheet-clause-found
returns-in-Ok-Sheet-clause-found c =
    let facts = rw c.in-Ok-Sheet.field-0-is at c.in-Ok-Sheet.ensures in
    good_found c.args.circuit.now c.args.text.items c.args.lines c.requires.lines _ _ facts.found

pub returns-in-Ok-Sheet-clause-exactly : goal.returns-in-Ok-Sheet-clause-exactly
returns-in-Ok-Sheet-clause-exactly c =
    let facts = rw c.in-Ok-Sheet.field-0-is at c.in-Ok-Sheet.ensures in
    good_exactly c.args.circuit.now c.args.text.items c.args.lines c.requires.lines _ _ facts.exactly

pub returns-in-Err-clause-found : goal.returns-in-Err-clause-found
returns-in-Err-clause-found c = refused_found c.args.circuit.now c.args.text.items c.in-Err.end c.in-Err.ensures.found

pub returns-in-Err-clause-exactly : goal.returns-in-Err-clause-exactly
returns-in-Err-clause-exactly c = refused_exactly c.args.circuit.now c.args.text.items c.in-Err.end c.in-Err.ensures.exactly

pub returns-in-Err-clause-unread : goal.returns-in-Err-clause-unread
returns-in-Err-clause-unread c = c.in-Err.ensures.unread
