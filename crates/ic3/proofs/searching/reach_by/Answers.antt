use Rattle.std.proofs.Common.{max, length, sym, ap, subst, ◌∙◌, arith}
use Rattle.entry.specs.CheckedEntries.{viewed}
use Rattle.ic3_frames.specs.Room.{room}
use Rattle.ic3_semantics.specs.Searching.{Question}
use Rattle.ic3_semantics.specs.Stepping.{Stepping}
use Rattle.ic3_loops.specs.Sound.{AvoidsAsked, IsStartCube}
use Rattle.ic3_loops.specs.Single.{IsSingleOf}
use Rattle.ic3_loops.proofs.Starts.{is_start_cube}
use Rattle.ic3_loops.proofs.Ended.{up_to_conflicts, on_ok, least_none}
use Rattle.ic3.proofs.GoingOn.{paid_behind}
use Rattle.ic3.proofs.Singles.{single-reached, counts-behind, kept-none}
use Rattle.ic3.proofs.searching.reach_by.Goals as goal

pub single-requires : goal.single-requires
single-requires c = ap (λ (s : Stepping). s.lemmas) c.requires.steps

pub by_frames-requires-clause-avoids : goal.by_frames-requires-clause-avoids
by_frames-requires-clause-avoids c =
    subst (λ (s : Stepping). AvoidsAsked s.avoid c.args.asked.now.goal.now) (sym c.in_ok-clause.ensures.same) c.requires.avoids

pub by_frames-requires-clause-steps : goal.by_frames-requires-clause-steps
by_frames-requires-clause-steps c =
    let q : Question = record { circuit = c.args.asked.now.c.now; view = viewed c.args.asked.now.view.now; start = c.args.asked.now.start.now } in
    kept-none q c.args.steps.now.avoid c.single.new.steps (c.in_ok-clause.ensures.same ∙ c.requires.steps)

pub returns-in_err-clause-clause-counted : goal.returns-in_err-clause-clause-counted
returns-in_err-clause-clause-counted c =
    up_to_conflicts (room (length c.args.asked.now.c.now.latches) c.args.frames.now) c.args.meter.now c.single.new.meter c.single.ensures.counted

pub returns-in_err-close_one-in-Some-clause-counted : goal.returns-in_err-close_one-in-Some-clause-counted
returns-in_err-close_one-in-Some-clause-counted c =
    up_to_conflicts (room (length c.args.asked.now.c.now.latches) c.args.frames.now) c.args.meter.now c.single.new.meter c.in_ok-clause.ensures.counted

pub returns-in_ok-close_one-in-Some-clause-counted : goal.returns-in_ok-close_one-in-Some-clause-counted
returns-in_ok-close_one-in-Some-clause-counted c =
    up_to_conflicts (room (length c.args.asked.now.c.now.latches) c.args.frames.now) c.args.meter.now c.single.new.meter c.in_ok-clause.ensures.counted

pub returns-in_ok-close_one-in-Some-clause-reached : goal.returns-in_ok-close_one-in-Some-clause-reached
returns-in_ok-close_one-in-Some-clause-reached c =
    let q : Question = record { circuit = c.args.asked.now.c.now; view = viewed c.args.asked.now.view.now; start = c.args.asked.now.start.now } in
    single-reached c.args.asked.now.c.now (viewed c.args.asked.now.view.now) c.args.asked.now.start.now c.args.asked.now.goal.now c.args.asked.now.starts.now c.in-Some.clause
    c.in_ok-close_one-in-Some.field-0 c.requires.asked.view.valid c.requires.asked.starts
    (subst (IsStartCube q) (sym c.requires.asked.starts) (is_start_cube c.args.asked.now.c.now (viewed c.args.asked.now.view.now) c.args.asked.now.start.now c.requires.asked.start))
    (subst (λ (s : Stepping). IsSingleOf s.question c.args.asked.now.starts.now c.args.asked.now.goal.now c.in-Some.clause) c.requires.steps
    (rw c.in-Some.is at c.in_ok-clause.ensures.single))
    c.in_ok-close_one-in-Some.ensures

pub returns-in-None-clause-counted : goal.returns-in-None-clause-counted
returns-in-None-clause-counted c =
    counts-behind (room (length c.args.asked.now.c.now.latches) c.args.frames.now) c.args.meter.now c.single.new.meter c.by_frames.new.meter
    c.in_ok-clause.ensures.counted c.by_frames.ensures.counted

pub returns-in_ok-close_one-in-Some-clause-kept : goal.returns-in_ok-close_one-in-Some-clause-kept
returns-in_ok-close_one-in-Some-clause-kept c =
    let same = c.in_ok-clause.ensures.counted.steps in
    record {
      ready = c.requires.open;
      narrows = λ k s allowed. allowed;
      more = omega arith;
      paid = omega (arith, same);
      fewest =
          least_none (max 2 (length c.args.frames.now)) (length c.args.frames.now) c.args.meter.now c.single.new.meter (omega arith)
          (omega (arith, same));
    }

pub returns-in-None-clause-kept : goal.returns-in-None-clause-kept
returns-in-None-clause-kept c =
    let same = c.in_ok-clause.ensures.counted.steps in
    on_ok c.by_frames.result _ _
    (paid_behind (record { circuit = c.args.asked.now.c.now; view = viewed c.args.asked.now.view.now; start = c.args.asked.now.start.now }) c.args.asked.now.starts.now
    c.args.frames.now c.by_frames.new.frames c.args.meter.now c.single.new.meter c.by_frames.new.meter same)
    c.by_frames.ensures.kept
