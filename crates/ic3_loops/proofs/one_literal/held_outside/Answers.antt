use Rattle.std.proofs.Common.{sym, ◌∙◌}
use Rattle.ic3_loops.proofs.Singles.{single-is}
use Rattle.ic3_loops.proofs.one_literal.held_outside.Goals as goal

pub returns-in_ok-negation-in-Some-clause-single : goal.returns-in_ok-negation-in-Some-clause-single
returns-in_ok-negation-in-Some-clause-single g c =
    single-is (g.S.StepSolver.seen c.args.steps.now) c.args.starts.now c.args.cube.now c.in_ok-negation-in-Some.field-0 c.args.to.now c.requires
    (rw c.in-Some.is at c.in_ok-part.ensures.asked).0 (sym c.holds_in.ensures ∙ c.if-not-holds_in.false) c.in_ok-negation-in-Some.ensures
