use Rattle.std.proofs.Common.{◌≡◌, ◌+◌, ◌<◌, ◌≤◌, false, length, sym, subst, ◌∙◌, arith}
use Rattle.std.specs.Result.{OnOk}
use Rattle.std.proofs.lemmas.Result.{IfOk-weaker}
use Rattle.ic3_frames.specs.Frames.{frame_at}
use Rattle.ic3_frames.specs.Room.{allowed_by}
use Rattle.ic3_generalise.proofs.Parts.{part_on}
use Rattle.ic3_semantics.specs.Stepping.{Stepping, IsOver}
use Rattle.ic3_generalise.specs.Cubes.{value_literals}
use Rattle.ic3_loops.specs.Sound.{IsSearch, IsRelative, KeepsQuestion}
use Rattle.ic3_loops.specs.Blocking.{IsStronger, NoneEnters}
use Rattle.ic3_loops.specs.Generalizing.{IsExcluded}
use Rattle.ic3_loops.proofs.Starts.{value_over}
use Rattle.ic3_loops.proofs.Sounds.{grow_on}
use Rattle.ic3_loops.proofs.Stuck.{negation_over}
use Rattle.ic3_loops.proofs.Excluding.{part_over, excluded-is, based-is, relative-is}
use Rattle.ic3_loops.proofs.Excluded.{excluded-based, counted-questions, at_level}
use Rattle.ic3_loops.proofs.generalizing.generalize.Goals as goal

pub shorten-requires : goal.shorten-requires
shorten-requires g c =
    let n = length (g.S.StepSolver.seen c.args.steps.now).question.circuit.latches in
    excluded-based c.args.aim.now.starts.now (g.S.StepSolver.seen c.args.steps.now) c.args.asking.now.below c.args.asking.now.asked.now c.args.part c.in_ok-first.first
    (part_over n c.args.asking.now.asked.now (value_literals 0 c.args.asking.now.state.now) c.requires.among
    (value_over n 0 c.args.asking.now.state.now (omega (arith, c.requires.size)))) c.requires.missing c.in_ok-first.ensures

pub highest-requires-clause-excluded : goal.highest-requires-clause-excluded
highest-requires-clause-excluded g c =
    subst (λ st. IsExcluded c.args.aim.now.starts.now st c.args.asking.now.below c.in_ok-shorter.shorter) (sym c.in_ok-shorter.ensures.same) c.in_ok-shorter.ensures.excluded

pub put_counted-requires-clause-search : goal.put_counted-requires-clause-search
put_counted-requires-clause-search g c =
    let same : (g.S.StepSolver.seen c.highest.new.steps) ≡ (g.S.StepSolver.seen c.args.steps.now) = c.in_ok-from.ensures.same ∙ c.in_ok-shorter.ensures.same in
    subst (λ st. IsSearch c.args.aim.now.starts.now st c.args.frames.now) (sym same) c.requires.search

pub put_counted-requires-clause-level : goal.put_counted-requires-clause-level
put_counted-requires-clause-level g c = omega (arith, c.in_ok-from.ensures.held.inside, c.in_ok-level.ensures)

pub put_counted-requires-clause-size : goal.put_counted-requires-clause-size
put_counted-requires-clause-size g c =
    let same : (g.S.StepSolver.seen c.highest.new.steps) ≡ (g.S.StepSolver.seen c.args.steps.now) = c.in_ok-from.ensures.same ∙ c.in_ok-shorter.ensures.same in
    subst (λ (st : Stepping). length c.args.asking.now.state.now ≡ length st.question.circuit.latches) (sym same) c.requires.size

pub put_counted-requires-clause-frame : goal.put_counted-requires-clause-frame
put_counted-requires-clause-frame g c =
    grow_on c.args.frames.now c.in_ok-level.level (c.args.asking.now.below + 1) c.args.asking.now.state.now
    (omega (arith, c.in_ok-from.ensures.held.least, c.in_ok-level.ensures))
    c.requires.frame

pub put_counted-requires-clause-excluded : goal.put_counted-requires-clause-excluded
put_counted-requires-clause-excluded g c =
    rw c.in_ok-clause.ensures
    (excluded-is c.args.asking.now.state.now c.in_ok-shorter.shorter
    (part_on c.in_ok-shorter.shorter c.in_ok-first.first (value_literals 0 c.args.asking.now.state.now) c.in_ok-shorter.ensures.part
    (part_on c.in_ok-first.first c.args.asking.now.asked.now (value_literals 0 c.args.asking.now.state.now) c.in_ok-first.ensures.among c.requires.among)))

pub put_counted-requires-clause-over : goal.put_counted-requires-clause-over
put_counted-requires-clause-over g c =
    let n = length (g.S.StepSolver.seen c.shorten.new.steps).question.circuit.latches in
    subst (λ (st : Stepping). IsOver (length st.question.circuit.latches) c.in_ok-clause.clause) (sym c.in_ok-from.ensures.same)
    (subst (IsOver n) (sym c.in_ok-clause.ensures) (negation_over n c.in_ok-shorter.shorter c.in_ok-from.ensures.held.excluded.over))

pub put_counted-requires-clause-based : goal.put_counted-requires-clause-based
put_counted-requires-clause-based g c =
    rw c.in_ok-clause.ensures (based-is c.args.aim.now.starts.now c.in_ok-shorter.shorter c.in_ok-from.ensures.held.excluded.misses)

pub put_counted-requires-clause-relative : goal.put_counted-requires-clause-relative
put_counted-requires-clause-relative g c =
    let same : (g.S.StepSolver.seen c.highest.new.steps) ≡ (g.S.StepSolver.seen c.args.steps.now) = c.in_ok-from.ensures.same ∙ c.in_ok-shorter.ensures.same in
    let none : NoneEnters (g.S.StepSolver.seen c.args.steps.now) c.in_ok-from.from c.in_ok-shorter.shorter =
    subst (λ st. NoneEnters st c.in_ok-from.from c.in_ok-shorter.shorter) c.in_ok-shorter.ensures.same c.in_ok-from.ensures.held.excluded.none
    in
    subst (λ (st : Stepping). IsRelative st.question c.args.frames.now c.in_ok-level.level c.in_ok-clause.clause) (sym same)
    (subst (λ k. IsRelative (g.S.StepSolver.seen c.args.steps.now).question c.args.frames.now k c.in_ok-clause.clause) (sym c.in_ok-level.ensures)
    (subst (IsRelative (g.S.StepSolver.seen c.args.steps.now).question c.args.frames.now (c.in_ok-from.from + 1)) (sym c.in_ok-clause.ensures)
    (relative-is (g.S.StepSolver.seen c.args.steps.now) c.args.frames.now c.in_ok-from.from c.in_ok-shorter.shorter none c.requires.search.agree)))

pub returns-clause-level : goal.returns-clause-level
returns-clause-level g c =
    let held = c.in_ok-from.ensures.held in
    IfOk-weaker c.put_counted.result (λ level. level ≡ c.in_ok-level.level)
    (λ level. (c.args.asking.now.below + 1 ≤ level) × (level < length c.args.frames.now))
    (λ level is. (omega (arith, is, c.in_ok-level.ensures, held.least), omega (arith, is, c.in_ok-level.ensures, held.inside)))
    c.put_counted.ensures.level

pub returns-clause-excluded : goal.returns-clause-excluded
returns-clause-excluded g c =
    at_level c.put_counted.result (λ level. allowed_by (frame_at c.put_counted.new.frames level) c.args.asking.now.state.now ≡ false) c.in_ok-level.level
    c.put_counted.ensures.level c.put_counted.ensures.excluded

pub returns-clause-stronger : goal.returns-clause-stronger
returns-clause-stronger g c =
    let same : (g.S.StepSolver.seen c.highest.new.steps) ≡ (g.S.StepSolver.seen c.args.steps.now) = c.in_ok-from.ensures.same ∙ c.in_ok-shorter.ensures.same in
    let n = length (g.S.StepSolver.seen c.args.steps.now).question.circuit.latches in
    at_level c.put_counted.result (λ level. IsStronger n level c.args.frames.now c.put_counted.new.frames) c.in_ok-level.level
    c.put_counted.ensures.level
    (subst (λ (st : Stepping). OnOk c.put_counted.result
    (IsStronger (length st.question.circuit.latches) c.in_ok-level.level c.args.frames.now c.put_counted.new.frames)) same
    c.put_counted.ensures.stronger)

pub returns-clause-question : goal.returns-clause-question
returns-clause-question g c =
    let same : (g.S.StepSolver.seen c.highest.new.steps) ≡ (g.S.StepSolver.seen c.args.steps.now) = c.in_ok-from.ensures.same ∙ c.in_ok-shorter.ensures.same in
    subst (λ st. KeepsQuestion st (g.S.StepSolver.seen c.put_counted.new.steps)) same c.put_counted.ensures.question

pub returns-clause-counted : goal.returns-clause-counted
returns-clause-counted g c =
    counted-questions c.args.meter.now c.shorten.new.meter c.highest.new.meter c.put_counted.new.meter c.in_ok-shorter.ensures.counted
    c.in_ok-from.ensures.counted c.put_counted.ensures.counted
