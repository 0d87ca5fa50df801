use Rattle.std.proofs.Common.{◌≡◌, ◌-◌, ◌≤◌, [], length, get_or}
use Rattle.fair_round.specs.Spending.{Asks}
use Rattle.fair_round.specs.Scopes.{IsAllowedIn}
use Rattle.fair_round.specs.Walks.{AreWalked, skeleton_of, states}
use Rattle.fair_round.proofs.walking.walk.Given as goal

abbrev pub invariant-loop-k : goal.invariant-loop-k
invariant-loop-k l = record {
  allowed : IsAllowedIn l.scope (skeleton_of l.situations.items);
  first : get_or (states l.situations.items) 0 [] ≡ get_or (states l.initial.situations.items) 0 [];
  size : length l.situations.items ≡ length l.initial.situations.items;
  some : 1 ≤ l.k;
  within : l.k ≤ l.k-end;
  last : l.k-end ≡ length l.initial.situations.items;
  walked : AreWalked l.scope.circuit.now l.situations.items (l.k - 1) l.pieces;
  counted : Asks (length l.scope.circuit.now.latches) (l.k - 1) l.initial.meter l.meter;
}
