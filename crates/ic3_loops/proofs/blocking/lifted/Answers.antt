use Rattle.std.proofs.Common.{length, refl}
use Rattle.std.proofs.lemmas.List.Elements.{All-nil}
use Rattle.std.specs.Prelude.{IsTrue}
use Rattle.aig_semantics.specs.Runs.{literal_at, successor}
use Rattle.proof_semantics.specs.Clauses.{values_of}
use Rattle.ic3_loops.proofs.Excluding.{part_true, part_over}
use Rattle.ic3_loops.proofs.Obliging.{before-is}
use Rattle.ic3_loops.proofs.blocking.lifted.Goals as goal

pub lift_step-requires-clause-over : goal.lift_step-requires-clause-over
lift_step-requires-clause-over g c =
    rw c.circuit.ensures.circuit
    (part_over (length (g.S.StepSolver.seen c.args.steps.now).question.circuit.latches) c.args.asking.now.into.now c.args.asking.now.asked.now c.requires.part c.requires.over)

pub lift_step-requires-clause-possible : goal.lift_step-requires-clause-possible
lift_step-requires-clause-possible g c = rw c.circuit.ensures.circuit c.requires.found.step.possible

pub lift_step-requires-clause-inside : goal.lift_step-requires-clause-inside
lift_step-requires-clause-inside g c =
    rw c.circuit.ensures.circuit
    (part_true (values_of (successor (g.S.StepSolver.seen c.args.steps.now).question.circuit c.args.position)) c.args.asking.now.into.now c.args.asking.now.asked.now c.requires.part
    c.requires.found.inside)

pub lift_step-requires-clause-holds : goal.lift_step-requires-clause-holds
lift_step-requires-clause-holds g c = All-nil (λ literal. IsTrue (literal_at c.circuit.result.now c.args.position literal))

pub returns : goal.returns
returns g c =
    before-is (g.S.StepSolver.seen c.args.steps.now) c.args._frames.now c.args._level c.args.asking.now.below c.args.asking.now.into.now c.args.asking.now.asked.now c.args.position _ c.requires.level
    c.requires.part c.requires.agree c.requires.found refl (rw c.circuit.ensures.circuit at c.in_ok-cube.ensures)
