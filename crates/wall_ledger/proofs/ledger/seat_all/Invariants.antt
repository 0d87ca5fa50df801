use Rattle.std.proofs.Common.{◌≡◌, ◌+◌, ◌*◌}
use Rattle.wall_ledger.specs.Passes.{new_passes}
use Rattle.wall_ledger.specs.Tickets.{view_of, most_tickets, IsIdle}
use Rattle.wall_ledger.specs.Seats.{unseated}
use Rattle.wall_ledger.specs.Hands.{ledger_of}
use Rattle.wall_ledger.proofs.ledger.seat_all.Given as goal

abbrev pub invariant-loop-number : goal.invariant-loop-number
invariant-loop-number l = record {
  own : l.place.table_id ≡ l.gate.table.shared.table_id;
  idle : IsIdle l.place;
  faces : view_of l.place ≡ unseated l.first.value l.number;
  budget : l.place.me.0.budget + l.number * 4294967295 ≡ most_tickets;
  passes : l.passes.items ≡ new_passes (ledger_of l.gate.table.shared.table_id l.first.value) 0 l.number;
}
