use Rattle.std.proofs.Common.{◌≡◌, ◌+◌, ◌-◌, refl, sym, subst, arith}
use Rattle.edge.proofs.Ends.{counts_none, counts_on}
use Rattle.ic3_loops.specs.Propagating.{IsTried, StayStuck, StuckFrom}
use Rattle.ic3_frames.specs.Witnessing.{AreWitnesses}
use Rattle.ic3_loops.proofs.Stuck.{none_tried, stay_on, all_stuck_here}
use Rattle.ic3_loops.proofs.Narrower.{narrower_none, narrower_on}
use Rattle.ic3_loops.proofs.Ended.{keeps_on}
use Rattle.ic3_loops.proofs.propagating.push_level.Goals as goal

pub places-init : goal.places-init
places-init g c = record {
  narrower = narrower_none c.args.aim.now.starts.now (g.S.StepSolver.seen c.args.steps.now) c.args.frames.now c.requires.search;
  stuck =
      none_tried (g.S.StepSolver.seen c.args.steps.now).question c.args.frames.now c.args.level c.count-place.result
      (λ below. omega (arith, below, c.count-place.ensures));
  stay = λ k below stuck. stuck;
  known = c.requires.known;
  question = record { question = refl; avoid = refl };
  counted = counts_none c.args.meter.now;
}

pub try_push-requires-clause-known : goal.try_push-requires-clause-known
try_push-requires-clause-known g c =
    subst (λ q. AreWitnesses q c.places.known) (sym c.places.invariant.question.question) c.places.invariant.known

pub places-preserved : goal.places-preserved
places-preserved g c =
    let first = (g.S.StepSolver.seen c.args.steps.now) in
    let before = c.places.invariant in
    let says = c.in_ok-try_push.ensures in
    let is = before.question.question in
    let back : c.places.place ≡ c.places.place - 1 + 1 = omega (arith, c.places-test.true) in
    record {
      narrower =
          narrower_on c.args.aim.now.starts.now first (g.S.StepSolver.seen c.places.steps) (g.S.StepSolver.seen c.try_push.new.steps) c.args.frames.now
          c.places.frames c.try_push.new.frames before.narrower says.narrower;
      stuck =
          subst (λ q. IsTried q c.places.frames c.try_push.new.frames c.args.level (c.places.place - 1)) is says.tried
          (subst (StuckFrom first.question c.places.frames c.args.level) back before.stuck);
      stay =
          stay_on first.question c.args.frames.now c.places.frames c.try_push.new.frames c.args.level before.stay
          (subst (λ q. StayStuck q c.places.frames c.try_push.new.frames c.args.level) is says.stay);
      known = subst (λ q. AreWitnesses q c.try_push.new.known) is says.known;
      question = keeps_on first (g.S.StepSolver.seen c.places.steps) (g.S.StepSolver.seen c.try_push.new.steps) before.question says.question;
      counted = counts_on c.args.meter.now c.places.meter c.try_push.new.meter before.counted says.counted;
    }

pub returns-clause-stuck : goal.returns-clause-stuck
returns-clause-stuck g c =
    all_stuck_here (g.S.StepSolver.seen c.args.steps.now).question c.places.frames c.args.level c.places.place (omega (arith, c.places-test.false))
    c.places.invariant.stuck
