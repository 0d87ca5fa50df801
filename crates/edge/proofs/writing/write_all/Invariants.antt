use Rattle.std.proofs.Common.{length, ◌-◌, ◌≤◌, take, false}
use Rattle.edge.specs.Writes.{Adds, Writes}
use Rattle.edge.proofs.writing.write_all.Given as goal

-- the bytes before `done` are written
abbrev pub invariant-loop-done : goal.invariant-loop-done
invariant-loop-done g l = record {
  within : l.done ≤ length l.bytes;
  written : Adds (g.O.Sink.taken l.fn.sink) (g.O.Sink.taken l.sink) (take l.done l.bytes);
  writes : Writes g.O.Sink.writes false l.fn.sink l.sink;
  later : g.O.Sink.faults l.fn.sink ≤ g.O.Sink.faults l.sink;
}

abbrev pub decreases-loop-done : goal.decreases-loop-done
decreases-loop-done g l = length l.bytes - l.done
