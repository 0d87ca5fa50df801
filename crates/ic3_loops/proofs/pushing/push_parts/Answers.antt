use Rattle.std.proofs.Common.{refl, sym, subst}
use Rattle.edge.proofs.Ends.{counts_none, counts_on}
use Rattle.ic3_frames.specs.Witnessing.{AreWitnesses}
use Rattle.ic3_loops.proofs.Narrower.{narrower_none, narrower_on}
use Rattle.ic3_loops.proofs.Ended.{keeps_on}
use Rattle.ic3_loops.proofs.pushing.push_parts.Goals as goal

pub loop-level-init : goal.loop-level-init
loop-level-init g c = record {
  narrower = narrower_none c.args.aim.now.starts.now (g.S.StepSolver.seen c.args.steps.now) c.args.frames.now c.requires.search;
  known = c.requires.known;
  question = record { question = refl; avoid = refl };
  counted = counts_none c.args.meter.now;
}

pub push_own-requires-clause-known : goal.push_own-requires-clause-known
push_own-requires-clause-known g c =
    subst (λ q. AreWitnesses q c.loop-level.known) (sym c.loop-level.invariant.question.question) c.loop-level.invariant.known

pub loop-level-preserved : goal.loop-level-preserved
loop-level-preserved g c =
    let first = (g.S.StepSolver.seen c.args.steps.now) in
    let before = c.loop-level.invariant in
    let says = c.in_ok-push_own.ensures in
    record {
      narrower =
          narrower_on c.args.aim.now.starts.now first (g.S.StepSolver.seen c.loop-level.steps) (g.S.StepSolver.seen c.push_own.new.steps)
          c.args.frames.now c.loop-level.frames c.push_own.new.frames before.narrower says.narrower;
      known = subst (λ q. AreWitnesses q c.push_own.new.known) before.question.question says.known;
      question = keeps_on first (g.S.StepSolver.seen c.loop-level.steps) (g.S.StepSolver.seen c.push_own.new.steps) before.question says.question;
      counted = counts_on c.args.meter.now c.loop-level.meter c.push_own.new.meter before.counted says.counted;
    }
