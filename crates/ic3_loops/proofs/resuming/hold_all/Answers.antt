use Rattle.std.proofs.Common.{length, refl, sym, subst, arith}
use Rattle.std.specs.List.{All}
use Rattle.ic3_frames.specs.Frames.{own_lemmas}
use Rattle.ic3_semantics.specs.Stepping.{IsOver}
use Rattle.ic3_loops.specs.Resuming.{all_placed}
use Rattle.ic3_loops.proofs.Ended.{keeps_on}
use Rattle.ic3_loops.proofs.Stuck.{all_own}
use Rattle.ic3_loops.proofs.HeldLemmas.{first_levels, next_levels, whole_levels, agrees}
use Rattle.ic3_loops.proofs.resuming.hold_all.Goals as goal

pub loop-level-init : goal.loop-level-init
loop-level-init g c = record {
  lemmas = first_levels c.args.frames.now (g.S.StepSolver.seen c.args.steps.now).lemmas c.requires.none;
  question = record { question = refl; avoid = refl };
}

pub hold_own-requires : goal.hold_own-requires
hold_own-requires g c =
    subst (λ x. All (IsOver (length x.circuit.latches)) (own_lemmas c.args.frames.now c.loop-level.level))
    (sym c.loop-level.invariant.question.question)
    (all_own (IsOver (length (g.S.StepSolver.seen c.args.steps.now).question.circuit.latches)) c.args.frames.now c.loop-level.level c.requires.over)

pub loop-level-preserved : goal.loop-level-preserved
loop-level-preserved g c = record {
  lemmas =
      next_levels c.args.frames.now (g.S.StepSolver.seen c.loop-level.steps).lemmas (g.S.StepSolver.seen c.hold_own.new.steps).lemmas (all_placed 0 c.args.frames.now) c.loop-level.level
      (omega arith) c.in_ok-hold_own.ensures.lemmas c.loop-level.invariant.lemmas;
  question =
      keeps_on (g.S.StepSolver.seen c.args.steps.now) (g.S.StepSolver.seen c.loop-level.steps) (g.S.StepSolver.seen c.hold_own.new.steps) c.loop-level.invariant.question c.in_ok-hold_own.ensures.question;
}

pub returns-clause-agree : goal.returns-clause-agree
returns-clause-agree g c =
    agrees (g.S.StepSolver.seen c.loop-level.steps).lemmas c.args.frames.now
    (whole_levels c.args.frames.now (g.S.StepSolver.seen c.loop-level.steps).lemmas (all_placed 0 c.args.frames.now) c.loop-level.level (omega arith)
    c.loop-level.invariant.lemmas)
