use Rattle.fair_semantics.proofs.Initial.{reach-step, wall-step, initial-in_cube, holds-initial}
use Rattle.fair_semantics.proofs.laws.steps_and_initial_states.Goals as goal

pub returns-clause-steps : goal.returns-clause-steps
returns-clause-steps c = λ set s t. (reach-step set s t, wall-step set s t)

pub returns-clause-initial : goal.returns-clause-initial
returns-clause-initial c = initial-in_cube

pub returns-clause-clauses : goal.returns-clause-clauses
returns-clause-clauses c = holds-initial
