use Rattle.ic3_loops.proofs.obligations.goal_cube.Goals as goal

pub lift_goal-requires-clause-over : goal.lift_goal-requires-clause-over
lift_goal-requires-clause-over g c = rw (c.circuit.ensures.circuit, c.avoid.ensures.avoid) c.avoid.ensures.over

pub lift_goal-requires-clause-entries : goal.lift_goal-requires-clause-entries
lift_goal-requires-clause-entries g c = rw (c.circuit.ensures.circuit, c.view.ensures.view) c.view.ensures.over

pub lift_goal-requires-clause-possible : goal.lift_goal-requires-clause-possible
lift_goal-requires-clause-possible g c = rw c.circuit.ensures.circuit c.requires.possible

pub lift_goal-requires-clause-holds : goal.lift_goal-requires-clause-holds
lift_goal-requires-clause-holds g c = rw c.circuit.ensures.circuit c.requires.holds

pub lift_goal-requires-clause-avoids : goal.lift_goal-requires-clause-avoids
lift_goal-requires-clause-avoids g c = rw c.avoid.ensures.avoid c.requires.avoids

pub returns : goal.returns
returns g c =
    rw (c.circuit.ensures.circuit, c.view.ensures.view, c.start.ensures, c.avoid.ensures.avoid) at c.lift_goal.ensures
