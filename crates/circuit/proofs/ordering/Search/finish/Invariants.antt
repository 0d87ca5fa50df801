use Rattle.std.proofs.Common.{sum_by}
use Rattle.circuit.specs.Sections.{circuit_of}
use Rattle.circuit.proofs.Searching.{IsGoingOn, steps_left}
use Rattle.circuit.proofs.ordering.Search.finish.Given as goal

abbrev pub invariant-loop-gate : goal.invariant-loop-gate
invariant-loop-gate l = IsGoingOn (circuit_of l.parts) l.initial.self.progress.items l.self.progress.items l.self.path.items l.self.order.items

abbrev pub decreases-loop-gate : goal.decreases-loop-gate
decreases-loop-gate l = sum_by steps_left l.self.progress.items
