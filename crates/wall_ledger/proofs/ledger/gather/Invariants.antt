use Rattle.std.proofs.Common.{◌≡◌, ◌+◌, ◌++◌, length}
use Rattle.std.specs.List.{All}
use Rattle.wall_ledger.specs.Tickets.{view_of, IsIdle}
use Rattle.wall_ledger.specs.Seats.{faces_of}
use Rattle.wall_ledger.proofs.ledger.gather.Given as goal

abbrev pub invariant-loop-number : goal.invariant-loop-number
invariant-loop-number l = record {
  own : l.place.table_id ≡ l.fn.place.table_id;
  idle : IsIdle l.place;
  faces : view_of l.place ++ faces_of l.rest.items ≡ view_of l.fn.place ++ faces_of l.fn.passes.items;
  left : length l.rest.items + l.number ≡ length l.fn.passes.items;
  locks : All (λ p. p.home.lock ≡ l.gate.table.shared.table_id) l.rest.items;
}
