use Rattle.std.proofs.Common.{◌≡◌, drop}
use Rattle.wall_store.specs.Scanning.{least_in}
use Rattle.wall_store.proofs.scanning.least_in.Given as goal

abbrev pub invariant-loop-s : goal.invariant-loop-s
invariant-loop-s l = least_in l.from (drop l.s-index l.served) ≡ least_in l.from l.served
