use Rattle.std.proofs.Common.{◌≡◌, ◌++◌, ℕ, map, take, None}
use Rattle.wall_store.specs.declared.outcomes.Served.{Served}
use Rattle.wall_store.proofs.making.push_unserved.Given as goal

abbrev fresh : ℕ → Served
fresh j = record { property = j; outcome = None }

abbrev pub invariant-loop-j : goal.invariant-loop-j
invariant-loop-j l = l.served.items ≡ l.initial.served.items ++ map fresh (take l.j-index l.properties)
