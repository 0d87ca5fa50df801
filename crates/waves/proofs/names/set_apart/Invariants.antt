use Rattle.std.proofs.Common.{◌≡◌, ◌-◌, length}
use Rattle.waves.specs.Names.{has_name, set_apart, enough}
use Rattle.waves.proofs.names.set_apart.Given as goal

abbrev pub invariant-loop-taken : goal.invariant-loop-taken
invariant-loop-taken l = record {
  told : l.taken ≡ has_name l.signals l.name.items;
  same : set_apart (enough l.signals) l.signals l.label l.name.items ≡ set_apart (enough l.signals) l.signals l.label l.fn.name.items;
}

abbrev pub decreases-loop-taken : goal.decreases-loop-taken
decreases-loop-taken l = enough l.signals - length l.name.items
