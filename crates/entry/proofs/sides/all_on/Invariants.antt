use Rattle.std.proofs.Common.{◌≡◌, ◌<◌, length, drop}
use Rattle.fair_semantics.specs.Entries.{set_at}
use Rattle.fair_semantics.specs.Allowing.{all_on}
use Rattle.fair_semantics.specs.Skeletons.{states_of}
use Rattle.entry.specs.CheckedEntries.{viewed}
use Rattle.entry.proofs.sides.all_on.Given as goal

abbrev pub invariant-loop-situation : goal.invariant-loop-situation
invariant-loop-situation l = record {
  room : l.k < length l.scratch;
  rest : all_on l.wanted (set_at (viewed l.view) l.k) (states_of (drop l.situation-index l.situations))
      ≡ all_on l.wanted (set_at (viewed l.view) l.k) (states_of l.situations);
}
