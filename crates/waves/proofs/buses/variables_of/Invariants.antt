use Rattle.std.proofs.Common.{◌≡◌, take}
use Rattle.std.specs.List.{flat_map}
use Rattle.waves.specs.Buses.{of_group}
use Rattle.waves.proofs.buses.variables_of.Given as goal

abbrev pub invariant-loop-group : goal.invariant-loop-group
invariant-loop-group l = l.variables.items ≡ flat_map of_group (take l.group-index l.groups)
