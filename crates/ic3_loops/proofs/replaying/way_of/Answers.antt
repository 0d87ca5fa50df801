use Rattle.std.proofs.Common.{sym, subst, ◌∙◌, arith}
use Rattle.ic3_loops.proofs.Ways.{IsOnWay, on-way-first, node-can-go, node-further, node-last}
use Rattle.ic3_loops.proofs.replaying.way_of.Goals as goal

pub nodes-init : goal.nodes-init
nodes-init g c =
    let ns = c.args.nodes.now.items in
    record {
      below = c.requires.first;
      on =
          subst (λ way. IsOnWay (g.S.StepSolver.seen c.args.steps.now).question ns c.args.first c.args.first way c.in_ok-state.state) (sym c.new-way.ensures)
          (on-way-first (g.S.StepSolver.seen c.args.steps.now).question c.args._goal.now ns c.args.first c.in_ok-state.state c.requires.nodes c.requires.first
          (c.in_ok-state.ensures ∙ c.state_at.ensures));
    }

pub go_along-requires : goal.go_along-requires
go_along-requires g c =
    rw c.circuit-c.ensures.circuit
    (node-can-go (g.S.StepSolver.seen c.args.steps.now).question c.args._goal.now c.args.nodes.now.items c.args.first c.nodes.at c.nodes.way c.nodes.state
    c.index.result.now c.requires.nodes c.nodes.invariant.below c.index.ensures c.nodes.invariant.on)

pub nodes-preserved : goal.nodes-preserved
nodes-preserved g c =
    let on = node-further (g.S.StepSolver.seen c.args.steps.now).question c.args._goal.now c.args.nodes.now.items c.args.first c.nodes.at c.in-Some.next
    c.index.result.now c.nodes.way c.go_along.new.way c.nodes.state c.go_along.new.state c.in_ok-next.field-0 c.requires.nodes
    c.nodes.invariant.below c.index.ensures c.nodes.invariant.on c.in-Some.is
    (rw c.circuit-c.ensures.circuit at c.in_ok-next.ensures)
    in
    record { below = omega (arith, on.0, c.nodes.invariant.below); on = on.1 }

pub returns-in-None : goal.returns-in-None
returns-in-None g c =
    node-last (g.S.StepSolver.seen c.args.steps.now).question c.args._goal.now c.args.nodes.now.items c.args.first c.nodes.at c.index.result.now c.nodes.way
    c.go_along.new.way c.nodes.state c.go_along.new.state c.in_ok-next.field-0 c.circuit-c.ensures.valid c.requires.nodes
    c.nodes.invariant.below c.index.ensures c.nodes.invariant.on c.in-None.is
    (rw c.circuit-c.ensures.circuit at c.in_ok-next.ensures)
