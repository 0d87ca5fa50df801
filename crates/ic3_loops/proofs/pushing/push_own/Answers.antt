use Rattle.std.proofs.Common.{refl, sym, subst}
use Rattle.edge.proofs.Ends.{counts_none, counts_on}
use Rattle.ic3_frames.specs.Witnessing.{AreWitnesses}
use Rattle.ic3_loops.proofs.Narrower.{narrower_none, narrower_on}
use Rattle.ic3_loops.proofs.Ended.{keeps_on}
use Rattle.ic3_loops.proofs.pushing.push_own.Goals as goal

pub places-init : goal.places-init
places-init g c = record {
  narrower = narrower_none c.args.aim.now.starts.now (g.S.StepSolver.seen c.args.steps.now) c.args.frames.now c.requires.search;
  known = c.requires.known;
  question = record { question = refl; avoid = refl };
  counted = counts_none c.args.meter.now;
}

pub push_part-requires-clause-known : goal.push_part-requires-clause-known
push_part-requires-clause-known g c =
    subst (λ q. AreWitnesses q c.places.known) (sym c.places.invariant.question.question) c.places.invariant.known

pub places-preserved : goal.places-preserved
places-preserved g c =
    let first = (g.S.StepSolver.seen c.args.steps.now) in
    let before = c.places.invariant in
    let says = c.in_ok-push_part.ensures in
    record {
      narrower =
          narrower_on c.args.aim.now.starts.now first (g.S.StepSolver.seen c.places.steps) (g.S.StepSolver.seen c.push_part.new.steps)
          c.args.frames.now c.places.frames c.push_part.new.frames before.narrower says.narrower;
      known = subst (λ q. AreWitnesses q c.push_part.new.known) before.question.question says.known;
      question = keeps_on first (g.S.StepSolver.seen c.places.steps) (g.S.StepSolver.seen c.push_part.new.steps) before.question says.question;
      counted = counts_on c.args.meter.now c.places.meter c.push_part.new.meter before.counted says.counted;
    }
