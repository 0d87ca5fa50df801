use Rattle.std.proofs.Common.{max, length, IfErr, sym, subst, ◌∙◌, arith}
use Rattle.std.proofs.lemmas.Result.{err_from_is_err_and}
use Rattle.entry.specs.CheckedEntries.{viewed}
use Rattle.ic3_semantics.specs.Searching.{Question, IsReachEnd}
use Rattle.ic3_loops.specs.Sound.{IsStartCube, IsSound}
use Rattle.ic3_loops.specs.Resuming.{MayGoOn}
use Rattle.ic3_loops.specs.Iterating.{IsIterated, IsClosedAt}
use Rattle.ic3_loops.proofs.Stuck.{narrow_on}
use Rattle.ic3_loops.proofs.Starts.{is_start_cube}
use Rattle.ic3_loops.proofs.Ended.{memory_end, least_from}
use Rattle.ic3.proofs.Separating.{closed_reached}
use Rattle.ic3.proofs.GoingOn.{same_question, counts_kept, paid_kept, are_open}
use Rattle.ic3.proofs.searching.by_frames.Goals as goal

pub resume-requires-clause-cube : goal.resume-requires-clause-cube
resume-requires-clause-cube c =
    let q : Question = record { circuit = c.args.asked.now.c.now; view = viewed c.args.asked.now.view.now; start = c.args.asked.now.start.now } in
    subst (λ s. IsStartCube s.question c.args.asked.now.starts.now) (sym c.requires.steps)
    (subst (IsStartCube q) (sym c.requires.asked.starts) (is_start_cube c.args.asked.now.c.now (viewed c.args.asked.now.view.now) c.args.asked.now.start.now c.requires.asked.start))

pub resume-requires-clause-open : goal.resume-requires-clause-open
resume-requires-clause-open c =
    subst (λ s. MayGoOn s.question c.args.asked.now.starts.now c.args.frames.now) (sym c.requires.steps) c.requires.open

pub returns-in_err-positions-clause-counted : goal.returns-in_err-positions-clause-counted
returns-in_err-positions-clause-counted c =
    counts_kept (record { circuit = c.args.asked.now.c.now; view = viewed c.args.asked.now.view.now; start = c.args.asked.now.start.now })
    c.args.steps.now.avoid c.args.steps.now c.resume.new.steps c.args.frames.now c.resume.new.frames c.args.meter.now c.iterate.new.meter
    c.requires.steps c.in_ok-resume.ensures.question c.in_ok-resume.ensures.room c.iterate.ensures.counted

pub returns-in-Path-clause-counted : goal.returns-in-Path-clause-counted
returns-in-Path-clause-counted c =
    counts_kept (record { circuit = c.args.asked.now.c.now; view = viewed c.args.asked.now.view.now; start = c.args.asked.now.start.now })
    c.args.steps.now.avoid c.args.steps.now c.resume.new.steps c.args.frames.now c.resume.new.frames c.args.meter.now c.iterate.new.meter
    c.requires.steps c.in_ok-resume.ensures.question c.in_ok-resume.ensures.room c.iterate.ensures.counted

pub returns-in_err-close-in-Closed-clause-counted : goal.returns-in_err-close-in-Closed-clause-counted
returns-in_err-close-in-Closed-clause-counted c =
    counts_kept (record { circuit = c.args.asked.now.c.now; view = viewed c.args.asked.now.view.now; start = c.args.asked.now.start.now })
    c.args.steps.now.avoid c.args.steps.now c.resume.new.steps c.args.frames.now c.resume.new.frames c.args.meter.now c.iterate.new.meter
    c.requires.steps c.in_ok-resume.ensures.question c.in_ok-resume.ensures.room c.iterate.ensures.counted

pub returns-in_ok-close-in-Closed-clause-counted : goal.returns-in_ok-close-in-Closed-clause-counted
returns-in_ok-close-in-Closed-clause-counted c =
    counts_kept (record { circuit = c.args.asked.now.c.now; view = viewed c.args.asked.now.view.now; start = c.args.asked.now.start.now })
    c.args.steps.now.avoid c.args.steps.now c.resume.new.steps c.args.frames.now c.resume.new.frames c.args.meter.now c.iterate.new.meter
    c.requires.steps c.in_ok-resume.ensures.question c.in_ok-resume.ensures.room c.iterate.ensures.counted

pub returns-in_ok-close-in-Closed-clause-reached : goal.returns-in_ok-close-in-Closed-clause-reached
returns-in_ok-close-in-Closed-clause-reached c =
    let q : Question = record { circuit = c.args.asked.now.c.now; view = viewed c.args.asked.now.view.now; start = c.args.asked.now.start.now } in
    let opened = same_question q c.args.steps.now.avoid c.args.steps.now c.resume.new.steps c.requires.steps c.in_ok-resume.ensures.question in
    let later = c.iterate.ensures.question.question ∙ opened in
    let search = c.in_ok-positions.ensures.search in
    closed_reached c.args.asked.now.c.now (viewed c.args.asked.now.view.now) c.args.asked.now.start.now c.args.asked.now.goal.now c.args.asked.now.starts.now c.iterate.new.frames c.in-Closed.level
    c.in_ok-close-in-Closed.field-0 c.requires.asked.view.valid c.requires.asked.starts
    (subst (λ x. IsStartCube x c.args.asked.now.starts.now) later search.starts)
    (subst (λ x. IsSound x c.args.asked.now.starts.now c.iterate.new.frames) later search.sound)
    (subst (λ x. IsClosedAt x c.args.asked.now.goal.now c.iterate.new.frames c.in-Closed.level) opened
    (subst (IsIterated c.resume.new.steps.question c.args.asked.now.goal.now c.iterate.new.frames) c.in-Closed.is c.in_ok-positions.ensures.outcome))
    c.in_ok-close-in-Closed.ensures

pub returns-in_err-close-in-Closed-clause-end : goal.returns-in_err-close-in-Closed-clause-end
returns-in_err-close-in-Closed-clause-end c =
    let p = err_from_is_err_and c.from_residual-in_err-close-in-Closed.result c.from_residual-in_err-close-in-Closed.ensures.1 in
    subst (λ r. IfErr r (IsReachEnd c.iterate.new.meter)) (sym p.1) (memory_end c.iterate.new.meter p.0 p.2)

pub returns-in-Path-clause-kept : goal.returns-in-Path-clause-kept
returns-in-Path-clause-kept c =
    let q : Question = record { circuit = c.args.asked.now.c.now; view = viewed c.args.asked.now.view.now; start = c.args.asked.now.start.now } in
    let opened = same_question q c.args.steps.now.avoid c.args.steps.now c.resume.new.steps c.requires.steps c.in_ok-resume.ensures.question in
    record {
      ready =
          are_open q c.args.asked.now.starts.now c.iterate.new.steps c.iterate.new.frames (c.iterate.ensures.question.question ∙ opened)
          c.in_ok-positions.ensures.two c.in_ok-positions.ensures.search;
      narrows =
          narrow_on c.args.frames.now c.resume.new.frames c.iterate.new.frames c.in_ok-resume.ensures.narrows c.in_ok-positions.ensures.narrows;
      more = omega (arith, c.in_ok-resume.ensures.more, c.in_ok-positions.ensures.more);
      paid =
          paid_kept q c.args.steps.now.avoid c.args.steps.now c.resume.new.steps c.args.frames.now c.resume.new.frames c.iterate.new.frames
          c.args.meter.now c.iterate.new.meter c.requires.steps c.in_ok-resume.ensures.question c.in_ok-resume.ensures.room
          c.in_ok-positions.ensures.room;
      fewest =
          least_from (length c.resume.new.frames) (max 2 (length c.args.frames.now)) (length c.iterate.new.frames) c.args.meter.now c.iterate.new.meter
          c.in_ok-resume.ensures.few c.in_ok-positions.ensures.fewest;
    }

pub returns-in_ok-close-in-Closed-clause-kept : goal.returns-in_ok-close-in-Closed-clause-kept
returns-in_ok-close-in-Closed-clause-kept c =
    let q : Question = record { circuit = c.args.asked.now.c.now; view = viewed c.args.asked.now.view.now; start = c.args.asked.now.start.now } in
    let opened = same_question q c.args.steps.now.avoid c.args.steps.now c.resume.new.steps c.requires.steps c.in_ok-resume.ensures.question in
    record {
      ready =
          are_open q c.args.asked.now.starts.now c.iterate.new.steps c.iterate.new.frames (c.iterate.ensures.question.question ∙ opened)
          c.in_ok-positions.ensures.two c.in_ok-positions.ensures.search;
      narrows =
          narrow_on c.args.frames.now c.resume.new.frames c.iterate.new.frames c.in_ok-resume.ensures.narrows c.in_ok-positions.ensures.narrows;
      more = omega (arith, c.in_ok-resume.ensures.more, c.in_ok-positions.ensures.more);
      paid =
          paid_kept q c.args.steps.now.avoid c.args.steps.now c.resume.new.steps c.args.frames.now c.resume.new.frames c.iterate.new.frames
          c.args.meter.now c.iterate.new.meter c.requires.steps c.in_ok-resume.ensures.question c.in_ok-resume.ensures.room
          c.in_ok-positions.ensures.room;
      fewest =
          least_from (length c.resume.new.frames) (max 2 (length c.args.frames.now)) (length c.iterate.new.frames) c.args.meter.now c.iterate.new.meter
          c.in_ok-resume.ensures.few c.in_ok-positions.ensures.fewest;
    }
