-- What a `Board` keeps (scaffolding).
use Rattle.std.specs.Prelude.{◌≤◌, map, length, vec_capacity}
use Rattle.std.specs.Arc.{arc_value}
use Rattle.wall_store.specs.declared.board.Board.TheInside.{Inside}
use Rattle.wall_store.specs.Boards.{BoardState, IsBoard}

abbrev pub seen_as : Inside → BoardState
seen_as s = record {
  circuit = arc_value s.circuit;
  served = s.served.items;
  workers = s.workers;
  limit = s.limit;
  given = s.given;
  entries = map arc_value s.entries.items;
  seen = s.seen.items;
}

-- it is a board, and has room for as many entries as it may have
pub record IsKept (s : Inside) : Type 0 where
  pub board : IsBoard (seen_as s)
  pub room : s.limit ≤ vec_capacity s.entries
  pub scratch : s.limit ≤ length s.scratch.items
