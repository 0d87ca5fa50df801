use Rattle.std.proofs.Common.{◌≡◌, ◌+◌, drop}
use Rattle.wall_store.specs.Scanning.{place_in}
use Rattle.wall_store.proofs.scanning.place_in.Given as goal

abbrev pub invariant-loop-i : goal.invariant-loop-i
invariant-loop-i l = place_in l.served l.property ≡ place_in (drop l.i l.served) l.property + l.i
