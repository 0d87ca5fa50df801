use Rattle.std.proofs.Common.{◌∙◌, ap}
use Rattle.sheet_answers.specs.Sheets.{none, and_all}
use Rattle.sheet_answers.specs.Writing.{sheet_text}
use Rattle.certificate.specs.Writing.{listed}
use Rattle.sheet_commands.proofs.BoardBlocks.{sheet_good, sheet_of}
use Rattle.sheet_commands.proofs.boards.board_sheet.Goals as goal

pub returns-clause-text : goal.returns-clause-text
returns-clause-text c =
    sheet_of c.args.circuit.now c.args.board.now (listed c.entries.result.now) c.in_ok-blocks.blocks.items c.counted-counts.result c.in_ok-text.text.items
    c.entries.ensures.checked c.in_ok-blocks.ensures.each c.in_ok-blocks.ensures.told
    (c.counted-counts.ensures ∙ ap (and_all none) c.as_slice.ensures.value)
    (c.in_ok-text.ensures.text ∙ ap (sheet_text (listed c.entries.result.now)) c.as_slice-2.ensures.value)

pub returns-clause-good : goal.returns-clause-good
returns-clause-good c =
    sheet_good c.args.circuit.now c.args.board.now (listed c.entries.result.now) c.in_ok-blocks.blocks.items c.counted-counts.result c.in_ok-text.text.items
    c.written_sheets_are_good.ensures c.holds.ensures c.requires c.entries.ensures.checked c.in_ok-blocks.ensures.each c.in_ok-blocks.ensures.told
    (c.counted-counts.ensures ∙ ap (and_all none) c.as_slice.ensures.value)
    (c.in_ok-text.ensures.text ∙ ap (sheet_text (listed c.entries.result.now)) c.as_slice-2.ensures.value) c.in_ok-text.ensures.within

pub returns-clause-shown : goal.returns-clause-shown
returns-clause-shown c = c.good_sheets_are_true.ensures.shown _ _ _ (returns-clause-good c)
