use Rattle.sheet_commands.proofs.boards.lasso_block.Goals as goal

pub returns : goal.returns
returns c = record {
  from = c.in_ok-short.short.from;
  latches = c.in_ok-short.ensures.start;
  inputs = c.in_ok-short.ensures.inputs;
  stands = c.in_ok-short.ensures.whole;
}
