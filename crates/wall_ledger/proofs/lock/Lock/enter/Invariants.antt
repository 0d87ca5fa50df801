use Rattle.std.proofs.Common.{◌≡◌}
use Rattle.wall_ledger.specs.Tickets.{IsSameSeat}
use Rattle.wall_ledger.proofs.lock.Lock.enter.Given as goal

abbrev pub invariant-loop : goal.invariant-loop
invariant-loop g l = IsSameSeat l.initial.place l.place × (l.place.me ≡ l.initial.place.me)
