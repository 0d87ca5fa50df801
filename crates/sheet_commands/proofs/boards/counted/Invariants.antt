use Rattle.std.proofs.Common.{◌≡◌, drop}
use Rattle.sheet_answers.specs.Sheets.{none, and_all, total}
use Rattle.sheet_commands.proofs.boards.counted.Given as goal

abbrev pub invariant-loop-block : goal.invariant-loop-block
invariant-loop-block l = record {
  rest : and_all l.counts (drop l.block-index l.blocks) ≡ and_all none l.blocks;
  many : total l.counts ≡ l.block-index;
}
