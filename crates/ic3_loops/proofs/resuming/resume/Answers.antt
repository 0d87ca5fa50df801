use Rattle.std.proofs.Common.{◌≤◌, max, length, sym, subst, ◌∙◌, arith}
use Rattle.ic3_frames.specs.Room.{room}
use Rattle.ic3_loops.proofs.HeldLemmas.{ready_search, empty_is, none_narrows, always_ok}
use Rattle.ic3_loops.proofs.Ended.{on_ok}
use Rattle.ic3_loops.proofs.resuming.resume.Goals as goal

pub hold_all-requires-clause-over : goal.hold_all-requires-clause-over
hold_all-requires-clause-over g c = (c.requires.open (omega (arith, c.len.ensures, c.if-len-eq0.false))).sound.over

pub returns-else-len-eq0-clause-search : goal.returns-else-len-eq0-clause-search
returns-else-len-eq0-clause-search g c =
    let kept = c.requires.open (omega (arith, c.len.ensures, c.if-len-eq0.false)) in
    on_ok c.hold_all.result _ _
    (ready_search c.args.starts.now (g.S.StepSolver.seen c.args.steps.now) (g.S.StepSolver.seen c.hold_all.new.steps) c.args.frames.now c.requires.cube kept.sound c.hold_all.ensures.question)
    c.hold_all.ensures.agree

pub returns-else-len-eq0-clause-two : goal.returns-else-len-eq0-clause-two
returns-else-len-eq0-clause-two g c = always_ok c.hold_all.result _ (c.requires.open (omega (arith, c.len.ensures, c.if-len-eq0.false))).two

pub returns-in_ok-frames-clause-room : goal.returns-in_ok-frames-clause-room
returns-in_ok-frames-clause-room g c =
    let n = length (g.S.StepSolver.seen c.args.steps.now).question.circuit.latches in
    let none = empty_is c.args.frames.now (sym c.len.ensures ∙ c.if-len-eq0.true) in
    subst (λ old. room n c.in_ok-frames.field-0 ≤ room n old) (sym none) c.in_ok-frames.ensures.room

pub returns-in_ok-frames-clause-narrows : goal.returns-in_ok-frames-clause-narrows
returns-in_ok-frames-clause-narrows g c =
    none_narrows c.args.frames.now c.in_ok-frames.field-0 (empty_is c.args.frames.now (sym c.len.ensures ∙ c.if-len-eq0.true))

pub returns-else-len-eq0-clause-few : goal.returns-else-len-eq0-clause-few
returns-else-len-eq0-clause-few g c =
    let few : length c.args.frames.now ≤ max 2 (length c.args.frames.now) = omega arith in always_ok c.hold_all.result _ few

pub returns-in_ok-frames-clause-few : goal.returns-in_ok-frames-clause-few
returns-in_ok-frames-clause-few g c = let two = c.in_ok-frames.ensures.two in omega (arith, two)
