use Rattle.std.proofs.Common.{◌≡◌, ◌++◌, map, take}
use Rattle.stimulus.specs.Walks.{unmet}
use Rattle.stimulus.proofs.replaying.watch.Given as goal

abbrev pub invariant-loop-literal : goal.invariant-loop-literal
invariant-loop-literal l = l.watched.items ≡ l.initial.watched.items ++ map unmet (take l.literal-index l.literals)
