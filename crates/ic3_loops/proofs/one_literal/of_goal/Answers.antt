use Rattle.ic3_loops.proofs.one_literal.of_goal.Goals as goal

pub returns-in-State-clause-single : goal.returns-in-State-clause-single
returns-in-State-clause-single g c = rw c.in-State.is c.apart.ensures.single
