use Rattle.ic3_loops.proofs.Obliging.{begun-nodes, begun-next}
use Rattle.ic3_loops.proofs.obligations.begin.Goals as goal

pub returns-in_ok-node-in-Some-clause-nodes : goal.returns-in_ok-node-in-Some-clause-nodes
returns-in_ok-node-in-Some-clause-nodes g c =
    begun-nodes (g.S.StepSolver.seen c.args.steps.now).question c.args.aim.now.goal.now c.args.frames.now c.args.top c.args.nodes.now.items c.put_node.new.nodes.items
    c.in-Some.first (rw c.in-Some.is at c.in_ok-first.ensures.first) c.requires.nodes c.in_ok-node-in-Some.ensures.nodes

pub returns-in_ok-node-in-Some-clause-next : goal.returns-in_ok-node-in-Some-clause-next
returns-in_ok-node-in-Some-clause-next g c =
    begun-next (g.S.StepSolver.seen c.args.steps.now).question c.args.aim.now.goal.now c.args.frames.now c.args.top c.args.nodes.now.items c.put_node.new.nodes.items
    c.in-Some.first c.in_ok-node-in-Some.node (rw c.in-Some.is at c.in_ok-first.ensures.first) c.in_ok-node-in-Some.ensures.nodes
    c.in_ok-node-in-Some.ensures.number
