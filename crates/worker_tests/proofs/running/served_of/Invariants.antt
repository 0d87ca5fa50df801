use Rattle.std.proofs.Common.{◌≤◌, length}
use Rattle.worker_tests.specs.Serving.{AreFirst}
use Rattle.worker_tests.proofs.running.served_of.Given as goal

abbrev pub invariant-loop-j : goal.invariant-loop-j
invariant-loop-j l = record {
  first : AreFirst l.j l.properties.items;
  there : l.j-end ≤ length l.c.justice;
  few : l.j-end ≤ 64;
}
