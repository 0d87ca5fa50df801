use Rattle.sheet_commands.proofs.Agreeing.{agree}
use Rattle.sheet_commands.proofs.laws.verdicts_agree.Goals as goal

pub returns : goal.returns
returns c = agree c.args.c.now c.good_answers_are_true.ensures c.good_sheets_are_true.ensures.each
