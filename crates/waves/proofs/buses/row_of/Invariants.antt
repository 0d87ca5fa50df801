use Rattle.std.proofs.Common.{◌≡◌, ◌≤◌, List}
use Rattle.waves.specs.declared.groups.Member.{Member}
use Rattle.waves.specs.Buses.{row_of}
use Rattle.waves.specs.Kept.{AreIndexed}
use Rattle.waves.proofs.RowLaws.{in_front}
use Rattle.waves.proofs.buses.row_of.Given as goal

abbrev pub invariant-loop-left : goal.invariant-loop-left
invariant-loop-left l = record {
  small : l.left ≤ l.count;
  row : (members : List Member) → AreIndexed members l.indexed → in_front l.row.items (row_of members l.low l.left) ≡ row_of members l.low l.count;
}

abbrev pub decreases-loop-left : goal.decreases-loop-left
decreases-loop-left l = l.left
