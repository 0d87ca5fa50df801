use Rattle.std.proofs.Common.{◌<◌, length}
use Rattle.ic3_loops.proofs.Ways.{IsOnWay}
use Rattle.ic3_loops.proofs.replaying.way_of.Given as goal

abbrev pub invariant-nodes : goal.invariant-nodes
invariant-nodes g l = record {
  below : l.at < length l.nodes.items;
  on : IsOnWay (g.S.StepSolver.seen l.steps).question l.nodes.items l.first l.at l.way l.state;
}

abbrev pub decreases-nodes : goal.decreases-nodes
decreases-nodes g l = l.at
