use Rattle.std.proofs.Common.{◌≡◌, ◌++◌, map, take}
use Rattle.waves.specs.Buses.{single}
use Rattle.waves.proofs.buses.push_singles.Given as goal

abbrev pub invariant-loop-member : goal.invariant-loop-member
invariant-loop-member l = l.variables.items ≡ l.fn.variables.items ++ map single (take l.member-index l.members)
