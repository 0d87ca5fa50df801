use Rattle.sheet_answers.proofs.WrittenSheets.{written_sheets}
use Rattle.sheet_answers.proofs.laws.written_sheets_are_good.Goals as goal

pub returns : goal.returns
returns c = written_sheets c.args.c.now c.max-limits.ensures.checked c.max-limits.ensures.limits
