use Rattle.std.proofs.Common.{◌≡◌, ℕ, ◌+◌, ◌<◌, ◌≤◌, ◌^◌, List, [], ◌∷◌, ◌++◌, length, sym, ap, subst, ◌∙◌, arith}
use Rattle.proof_semantics.specs.declared.literals.Lit.{Lit}
use Rattle.edge.specs.Units.{Spendings}
use Rattle.ic3_frames.specs.Frames.{AllDiffer}
use Rattle.ic3_frames.specs.Room.{room}
use Rattle.ic3_frames.proofs.Rooms.{frames-take}
use Rattle.ic3_semantics.specs.Searching.{Question}
use Rattle.ic3_loops.specs.Sound.{IsStartCube, IsSound}
use Rattle.ic3_semantics.specs.Searching.{CountsUpTo}
use Rattle.ic3_loops.specs.Propagating.{AllStuck}
use Rattle.ic3_loops.proofs.Stuck.{stuck_differ}
use Rattle.ic3_loops.proofs.Lowest.{few_differ, opened_narrows}
use Rattle.ic3_loops.proofs.Ended.{one_step, one_step_of}
use Rattle.ic3_loops.proofs.iterating.open_frame.Goals as goal

opened : (q : Question) (cube : List Lit) (levels : List (List (List Lit))) → IsStartCube q cube → IsSound q cube levels → AllStuck q levels
    → AllDiffer levels → room (length q.circuit.latches) (levels ++ [] ∷ []) + 1 ≤ room (length q.circuit.latches) levels
opened q cube levels exact sound stuck differ =
    let n = length q.circuit.latches in
    let few : length levels ≤ 2 ^ n + 1 = few_differ q cube levels exact sound (stuck_differ q cube levels sound stuck differ) in
    frames-take n levels (omega (arith, few))

counted : (q : Question) (cube : List Lit) (levels : List (List (List Lit))) (a b : Spendings) → IsStartCube q cube → IsSound q cube levels → AllStuck q levels
    → AllDiffer levels → CountsUpTo 1 a b → CountsUpTo (room (length q.circuit.latches) levels) a b
counted q cube levels a b exact sound stuck differ h =
    let less = opened q cube levels exact sound stuck differ in one_step_of (room (length q.circuit.latches) levels) a b (omega (arith, less)) h

small : (a n : ℕ) → n ≡ a → n < 2 ^ 64 → a < 2 ^ 64
small a n is below = subst (λ m. m < 2 ^ 64) is below

pub returns-in_err-add_frame-clause-counted : goal.returns-in_err-add_frame-clause-counted
returns-in_err-add_frame-clause-counted g c =
    counted (g.S.StepSolver.seen c.args._steps.now).question c.args._starts.now c.args.frames.now c.args.meter.now c.count_frame.new.meter c.requires.search.starts c.requires.search.sound
    c.requires.stuck c.requires.differ
    (one_step c.args.meter.now c.count_frame.new.meter (small c.args.meter.now.steps c.steps_of-small.result c.steps_of-small.ensures.value c.steps_of-small.ensures.small)
    c.in_ok-count_frame.ensures.counted)

pub returns-clause-counted : goal.returns-clause-counted
returns-clause-counted g c =
    counted (g.S.StepSolver.seen c.args._steps.now).question c.args._starts.now c.args.frames.now c.args.meter.now c.count_frame.new.meter c.requires.search.starts c.requires.search.sound
    c.requires.stuck c.requires.differ
    (one_step c.args.meter.now c.count_frame.new.meter (small c.args.meter.now.steps c.steps_of-small.result c.steps_of-small.ensures.value c.steps_of-small.ensures.small)
    c.in_ok-count_frame.ensures.counted)

pub returns-clause-smaller : goal.returns-clause-smaller
returns-clause-smaller g c =
    let n = length (g.S.StepSolver.seen c.args._steps.now).question.circuit.latches in
    subst (λ new. room n new + 1 ≤ room n c.args.frames.now)
    (sym (c.in_ok-add_frame.ensures.ok ∙ ap (λ old. old ++ [] ∷ []) c.in_ok-count_frame.ensures.same))
    (opened (g.S.StepSolver.seen c.args._steps.now).question c.args._starts.now c.args.frames.now c.requires.search.starts c.requires.search.sound c.requires.stuck c.requires.differ)

pub returns-clause-room : goal.returns-clause-room
returns-clause-room g c =
    let n = length (g.S.StepSolver.seen c.args._steps.now).question.circuit.latches in
    let less : room n c.add_frame.new.self + 1 ≤ room n c.args.frames.now =
    subst (λ new. room n new + 1 ≤ room n c.args.frames.now)
    (sym (c.in_ok-add_frame.ensures.ok ∙ ap (λ old. old ++ [] ∷ []) c.in_ok-count_frame.ensures.same))
    (opened (g.S.StepSolver.seen c.args._steps.now).question c.args._starts.now c.args.frames.now c.requires.search.starts c.requires.search.sound c.requires.stuck c.requires.differ)
    in
    let one : CountsUpTo 1 c.args.meter.now c.count_frame.new.meter =
    one_step c.args.meter.now c.count_frame.new.meter (small c.args.meter.now.steps c.steps_of-small.result c.steps_of-small.ensures.value c.steps_of-small.ensures.small)
    c.in_ok-count_frame.ensures.counted
    in
    omega (arith, less, one.bound)

pub returns-clause-narrows : goal.returns-clause-narrows
returns-clause-narrows g c =
    opened_narrows c.args.frames.now c.add_frame.new.self
    (c.in_ok-add_frame.ensures.ok ∙ ap (λ old. old ++ [] ∷ []) c.in_ok-count_frame.ensures.same)
