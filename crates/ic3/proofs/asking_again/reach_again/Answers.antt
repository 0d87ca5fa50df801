use Rattle.std.proofs.Common.{◌-◌, ◌++◌, max, length, sym, ap, subst, ◌∙◌}
use Rattle.entry.specs.CheckedEntries.{viewed}
use Rattle.ic3_semantics.specs.Searching.{Question, CountsAtLeast}
use Rattle.ic3_loops.specs.Resuming.{MayGoOn}
use Rattle.ic3_loops.proofs.Sounds.{Levels}
use Rattle.ic3.proofs.GoingOn.{goes_on, none_open, on_same}
use Rattle.ic3.proofs.asking_again.reach_again.Goals as goal

pub reach_on-requires-clause-open : goal.reach_on-requires-clause-open
reach_on-requires-clause-open c =
    let q : Question = record { circuit = c.args.c.now; view = viewed c.args.kept.now.seen; start = c.args.start.now } in
    goes_on c.args.c.now (viewed c.args.kept.now.seen) (viewed c.args.view.now) c.args.start.now c.args.starts.now c.replace-frames.result c.requires.on
    (subst (MayGoOn q c.args.starts.now) (sym c.replace-frames.ensures.value) c.requires.open)

pub returns-in_err-catch_up-clause-open : goal.returns-in_err-catch_up-clause-open
returns-in_err-catch_up-clause-open c =
    let q : Question = record { circuit = c.args.c.now; view = viewed c.catch_up.new.seen; start = c.args.start.now } in
    subst (MayGoOn q c.args.starts.now) (sym (c.replace-frames.ensures.after ∙ c.new.ensures)) (none_open q c.args.starts.now)

pub returns-in_err-reached-clause-open : goal.returns-in_err-reached-clause-open
returns-in_err-reached-clause-open c =
    let q : Question = record { circuit = c.args.c.now; view = viewed c.catch_up.new.seen; start = c.args.start.now } in
    subst (MayGoOn q c.args.starts.now) (sym (c.replace-frames.ensures.after ∙ c.new.ensures)) (none_open q c.args.starts.now)

pub returns-clause-open : goal.returns-clause-open
returns-clause-open c =
    subst (λ view. MayGoOn (record { circuit = c.args.c.now; view = view; start = c.args.start.now }) c.args.starts.now c.reach_on.new.frames)
    (sym c.in_ok-catch_up.ensures.seen) c.in_ok-reached.ensures.kept.ready

pub returns-in_err-catch_up-clause-seen : goal.returns-in_err-catch_up-clause-seen
returns-in_err-catch_up-clause-seen c =
    (c.requires.on.0, c.requires.on.1 ∙ ap (λ seen. viewed seen ++ c.requires.on.0) (sym c.in_err-catch_up.ensures.kept))

pub returns-in_err-reached-clause-seen : goal.returns-in_err-reached-clause-seen
returns-in_err-reached-clause-seen c = on_same (viewed c.catch_up.new.seen) (viewed c.args.view.now) c.in_ok-catch_up.ensures.seen

pub returns-clause-seen : goal.returns-clause-seen
returns-clause-seen c = on_same (viewed c.catch_up.new.seen) (viewed c.args.view.now) c.in_ok-catch_up.ensures.seen

pub returns-clause-fewest : goal.returns-clause-fewest
returns-clause-fewest c =
    subst (λ (levels : Levels). CountsAtLeast (length c.reach_on.new.frames - max 2 (length levels)) c.args.meter.now c.reach_on.new.meter)
    c.replace-frames.ensures.value c.in_ok-reached.ensures.kept.fewest
