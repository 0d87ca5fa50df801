use Rattle.sheet_commands.proofs.CutBlocks.{cut_decides, cut_exactly, none_decides, none_exactly}
use Rattle.sheet_commands.proofs.blocks.cut_lasso.Goals as goal

pub returns-in-Ok-clause-found : goal.returns-in-Ok-clause-found
returns-in-Ok-clause-found c =
    cut_decides c.args.circuit.now c.args.property c.args.lines.now c.in-Ok.answer.items c.answer_lasso.result c.in-Ok.ensures.found c.answer_lasso.ensures.found

pub returns-in-Ok-clause-exactly : goal.returns-in-Ok-clause-exactly
returns-in-Ok-clause-exactly c =
    cut_exactly c.args.circuit.now c.args.property c.args.lines.now c.in-Ok.answer.items c.answer_lasso.result c.in-Ok.ensures.found c.answer_lasso.ensures.exactly

pub returns-in-Err-clause-found : goal.returns-in-Err-clause-found
returns-in-Err-clause-found c = none_decides c.args.circuit.now c.args.property c.args.lines.now c.in-Err.end c.in-Err.ensures.none

pub returns-in-Err-clause-exactly : goal.returns-in-Err-clause-exactly
returns-in-Err-clause-exactly c = none_exactly c.args.circuit.now c.args.property c.args.lines.now c.in-Err.end c.in-Err.ensures.none
