use Rattle.ic3_loops.proofs.Obliging.{first-is}
use Rattle.ic3_semantics.specs.declared.questions.Goal.TheVariants as goals
use Rattle.ic3_loops.proofs.obligations.first_node.Goals as goal

pub returns-in_ok-state_node-in-State-clause-first : goal.returns-in_ok-state_node-in-State-clause-first
returns-in_ok-state_node-in-State-clause-first g c =
    rw c.in-State.is
    (first-is (g.S.StepSolver.seen c.args.steps.now) c.args.frames.now c.args.top (goals.State c.in-State.to) c.in_ok-state_node-in-State.field-0
    c.requires.search.agree (rw c.in-State.is at c.requires.goal) c.in_ok-state_node-in-State.ensures)

pub returns-in_ok-literal_node-in-Literal-clause-first : goal.returns-in_ok-literal_node-in-Literal-clause-first
returns-in_ok-literal_node-in-Literal-clause-first g c =
    rw c.in-Literal.is
    (first-is (g.S.StepSolver.seen c.args.steps.now) c.args.frames.now c.args.top (goals.Literal c.in-Literal.literal c.in-Literal.avoid)
    c.in_ok-literal_node-in-Literal.field-0 c.requires.search.agree (rw c.in-Literal.is at c.requires.goal)
    c.in_ok-literal_node-in-Literal.ensures.found)
