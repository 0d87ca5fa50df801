use Rattle.std.proofs.Common.{◌≡◌, length}
use Rattle.sheet_commands.specs.Boards.{AreBlocksOf}
use Rattle.sheet_commands.proofs.boards.blocks_of.Given as goal

abbrev pub invariant-loop-n : goal.invariant-loop-n
invariant-loop-n l = record {
  count : length l.blocks.items ≡ l.n;
  told : AreBlocksOf l.circuit l.board.served 0 l.blocks.items;
}
