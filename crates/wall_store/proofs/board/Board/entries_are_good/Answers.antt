use Rattle.std.proofs.Common.{subst}
use Rattle.wall_store.specs.Boards.{IsBoard}
use Rattle.wall_store.proofs.Kept.{good_entries}
use Rattle.wall_store.proofs.board.Board.entries_are_good.Goals as goal

pub returns : goal.returns
returns c = good_entries c.args.self.now (subst IsBoard c.self.view_is c.self.invariant.board)
