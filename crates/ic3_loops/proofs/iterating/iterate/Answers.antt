use Rattle.std.proofs.Common.{rules, ◌+◌, ◌≤◌, length, refl, sym, subst, arith}
use Rattle.ic3_frames.specs.Room.{room}
use Rattle.ic3_semantics.specs.Searching.{Question}
use Rattle.ic3_semantics.specs.Searching.{CountsUpTo}
use Rattle.ic3_loops.specs.Iterating.{IsIterated}
use Rattle.ic3_frames.specs.Witnessing.{AreWitnesses}
use Rattle.ic3_loops.proofs.Stuck.{narrow_on}
use Rattle.ic3_loops.proofs.Ended.{keeps_on, up_to_none, up_to_on, least_none, least_on}
use Rattle.ic3_loops.proofs.iterating.iterate.Goals as goal

pub iterations-init : goal.iterations-init
iterations-init g c = record {
  search = c.requires.search;
  two = c.requires.two;
  more = omega arith;
  narrows = λ k s allowed. allowed;
  known = c.no_witnesses-known.ensures (g.S.StepSolver.seen c.args.steps.now).question;
  question = record { question = refl; avoid = refl };
  paid = omega arith;
  counted = up_to_none (room (length (g.S.StepSolver.seen c.args.steps.now).question.circuit.latches) c.args.frames.now) c.args.meter.now;
  fewest = least_none (length c.args.frames.now) (length c.args.frames.now) c.args.meter.now c.args.meter.now (omega arith) (omega arith);
}

pub iteration-requires-clause-known : goal.iteration-requires-clause-known
iteration-requires-clause-known g c =
    subst (λ q. AreWitnesses q c.iterations.known) (sym c.iterations.invariant.question.question) c.iterations.invariant.known

pub iterations-preserved : goal.iterations-preserved
iterations-preserved g c =
    let most = room (length (g.S.StepSolver.seen c.args.steps.now).question.circuit.latches) c.args.frames.now in
    let before = c.iterations.invariant in
    let says = c.in_ok-ended.ensures in
    let is = before.question.question in
    let less =
    subst (λ (q : Question). c.iteration.new.meter.steps + room (length q.circuit.latches) c.iteration.new.frames
    ≤ c.iterations.meter.steps + room (length q.circuit.latches) c.iterations.frames) is says.room
    in
    record {
      search = says.search;
      two = says.two;
      more = omega (arith, says.more, before.more);
      narrows = narrow_on c.args.frames.now c.iterations.frames c.iteration.new.frames before.narrows says.narrows;
      known = subst (λ q. AreWitnesses q c.iteration.new.known) is says.known;
      question = keeps_on (g.S.StepSolver.seen c.args.steps.now) (g.S.StepSolver.seen c.iterations.steps) (g.S.StepSolver.seen c.iteration.new.steps) before.question says.question;
      paid = omega (arith, less, before.paid);
      counted =
          up_to_on most (room (length (g.S.StepSolver.seen c.args.steps.now).question.circuit.latches) c.iterations.frames) c.args.meter.now c.iterations.meter c.iteration.new.meter
          before.counted before.paid
          (subst (λ (q : Question). CountsUpTo (room (length q.circuit.latches) c.iterations.frames) c.iterations.meter c.iteration.new.meter) is
          says.counted);
      fewest =
          least_on (length c.args.frames.now) (length c.iterations.frames) (length c.iteration.new.frames) c.args.meter.now c.iterations.meter
          c.iteration.new.meter before.more says.more before.fewest says.fewest;
    }

pub returns-in_default : goal.returns-in_default
returns-in_default g c =
    let most = room (length (g.S.StepSolver.seen c.args.steps.now).question.circuit.latches) c.args.frames.now in
    let before = c.iterations.invariant in
    let says = c.in_ok-ended.ensures in
    let is = before.question.question in
    let less =
    subst (λ (q : Question). c.iteration.new.meter.steps + room (length q.circuit.latches) c.iteration.new.frames
    ≤ c.iterations.meter.steps + room (length q.circuit.latches) c.iterations.frames) is says.room
    in
    record {
      search = says.search;
      outcome = subst (λ q. IsIterated q c.args.aim.now.goal.now c.iteration.new.frames c.in_ok-ended.ended) is says.outcome;
      ended = (search rules);
      two = says.two;
      more = omega (arith, says.more, before.more);
      narrows = narrow_on c.args.frames.now c.iterations.frames c.iteration.new.frames before.narrows says.narrows;
      room = omega (arith, less, before.paid);
      question = keeps_on (g.S.StepSolver.seen c.args.steps.now) (g.S.StepSolver.seen c.iterations.steps) (g.S.StepSolver.seen c.iteration.new.steps) before.question says.question;
      counted =
          up_to_on most (room (length (g.S.StepSolver.seen c.args.steps.now).question.circuit.latches) c.iterations.frames) c.args.meter.now c.iterations.meter c.iteration.new.meter
          before.counted before.paid
          (subst (λ (q : Question). CountsUpTo (room (length q.circuit.latches) c.iterations.frames) c.iterations.meter c.iteration.new.meter) is
          says.counted);
      fewest =
          least_on (length c.args.frames.now) (length c.iterations.frames) (length c.iteration.new.frames) c.args.meter.now c.iterations.meter
          c.iteration.new.meter before.more says.more before.fewest says.fewest;
      end = tt;
    }
