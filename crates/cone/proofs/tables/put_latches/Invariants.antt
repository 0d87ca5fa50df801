use Rattle.std.proofs.Common.{◌≡◌, take}
use Rattle.cone.specs.Finding.{with_latches}
use Rattle.cone.proofs.tables.put_latches.Given as goal

abbrev pub invariant-loop-latch : goal.invariant-loop-latch
invariant-loop-latch l = l.table ≡ with_latches l.initial.table (take l.latch-index l.latches)
