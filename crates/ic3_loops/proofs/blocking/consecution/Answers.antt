use Rattle.std.proofs.Common.{◌+◌, length, sym, subst, arith}
use Rattle.ic3_frames.specs.Room.{room}
use Rattle.ic3_semantics.specs.Stepping.{Stepping, IsOver, IsPredecessor}
use Rattle.ic3_loops.specs.Sound.{KeepsQuestion}
use Rattle.ic3_generalise.specs.Cubes.{value_literals}
use Rattle.ic3_loops.proofs.Starts.{value_over}
use Rattle.ic3_loops.proofs.Excluding.{part_over, some-room, counted-behind}
use Rattle.ic3_loops.proofs.blocking.consecution.Goals as goal

pub predecessor-requires : goal.predecessor-requires
predecessor-requires g c =
    let n = length (g.S.StepSolver.seen c.args.steps.now).question.circuit.latches in
    part_over n c.args.asking.now.asked.now (value_literals 0 c.args.asking.now.state.now) c.requires.based.among
    (value_over n 0 c.args.asking.now.state.now (omega (arith, c.requires.size)))

pub from_start-requires-clause-over : goal.from_start-requires-clause-over
from_start-requires-clause-over g c =
    let n = length (g.S.StepSolver.seen c.args.steps.now).question.circuit.latches in
    subst (λ (st : Stepping). IsOver (length st.question.circuit.latches) c.args.asking.now.asked.now) (sym c.in_ok-position.ensures.same)
    (part_over n c.args.asking.now.asked.now (value_literals 0 c.args.asking.now.state.now) c.requires.based.among
    (value_over n 0 c.args.asking.now.state.now (omega (arith, c.requires.size))))

pub from_start-requires-clause-found : goal.from_start-requires-clause-found
from_start-requires-clause-found g c =
    subst (λ st. IsPredecessor st c.args.asking.now.below c.args.asking.now.asked.now c.in-Step.position) (sym c.in_ok-position.ensures.same)
    (rw c.in-Step.is at c.in_ok-position.ensures.found)

pub returns-in_err-generalize-in-Missing-clause-bounded : goal.returns-in_err-generalize-in-Missing-clause-bounded
returns-in_err-generalize-in-Missing-clause-bounded g c =
    let n = length (g.S.StepSolver.seen c.args.steps.now).question.circuit.latches in
    record {
      question =
          subst (λ st. KeepsQuestion st (g.S.StepSolver.seen c.generalize.new.steps)) c.in_ok-position.ensures.same c.in_err-generalize-in-Missing.ensures.question;
      counted =
          counted-behind (room n c.args.frames.now) c.args.meter.now c.predecessor.new.meter c.generalize.new.meter
          (some-room n c.args.frames.now (c.args.asking.now.below + 1) c.args.asking.now.state.now c.requires.level c.requires.size c.requires.frame)
          c.in_ok-position.ensures.counted c.in_err-generalize-in-Missing.ensures.counted;
    }
