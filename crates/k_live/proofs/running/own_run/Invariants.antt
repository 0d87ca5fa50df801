use Rattle.std.proofs.Common.{◌≡◌, map, take}
use Rattle.round_monitor.specs.Counting.{own_position}
use Rattle.k_live.proofs.running.own_run.Given as goal

abbrev pub invariant-loop-p : goal.invariant-loop-p
invariant-loop-p l = l.run ≡ map (own_position l.c) (take l.p-index l.positions)
