use Rattle.std.proofs.Common.{◌≡◌, ◌+◌, map, length, sym, subst, arith}
use Rattle.proof_semantics.specs.Clauses.{negation}
use Rattle.ic3_semantics.specs.Stepping.{IsOver}
use Rattle.ic3_loops.specs.Sound.{IsRelative}
use Rattle.ic3_loops.specs.Generalizing.{IsExcluded}
use Rattle.ic3_loops.proofs.Stuck.{negation_over}
use Rattle.ic3_loops.proofs.Excluding.{based-is, relative-is}
use Rattle.ic3_loops.proofs.Excluded.{excluded-based}
use Rattle.ic3_loops.proofs.Narrower.{narrower_with}
use Rattle.ic3_loops.proofs.Ended.{on_both}
use Rattle.ic3_loops.proofs.pushing.put_part.Goals as goal

pub longer_lemma-requires-clause-among : goal.longer_lemma-requires-clause-among
longer_lemma-requires-clause-among g c = c.requires.missing.among

pub put_lemma-requires-clause-over : goal.put_lemma-requires-clause-over
put_lemma-requires-clause-over g c =
    let st = (g.S.StepSolver.seen c.args.steps.now) in
    let n = length st.question.circuit.latches in
    let longer = c.in_ok-clause.ensures.0 in
    let excluded : IsExcluded c.args.aim.now.starts.now st c.args.level longer =
    excluded-based c.args.aim.now.starts.now st c.args.level (map negation c.args.lemma.now) c.args.part longer
    (negation_over n c.args.lemma.now c.requires.over) c.requires.missing c.in_ok-clause.ensures.1
    in
    subst (IsOver n) (sym c.in_ok-clause.ensures.2) (negation_over n longer excluded.over)

pub put_lemma-requires-clause-based : goal.put_lemma-requires-clause-based
put_lemma-requires-clause-based g c =
    rw c.in_ok-clause.ensures.2 (based-is c.args.aim.now.starts.now c.in_ok-clause.ensures.0 c.in_ok-clause.ensures.1.misses)

pub put_lemma-requires-clause-relative : goal.put_lemma-requires-clause-relative
put_lemma-requires-clause-relative g c =
    let st = (g.S.StepSolver.seen c.args.steps.now) in
    let n = length st.question.circuit.latches in
    let longer = c.in_ok-clause.ensures.0 in
    let excluded : IsExcluded c.args.aim.now.starts.now st c.args.level longer =
    excluded-based c.args.aim.now.starts.now st c.args.level (map negation c.args.lemma.now) c.args.part longer
    (negation_over n c.args.lemma.now c.requires.over) c.requires.missing c.in_ok-clause.ensures.1
    in
    subst (λ k. IsRelative st.question c.args.frames.now k c.in_ok-clause.clause) (sym c.in_ok-next.ensures)
    (subst (IsRelative st.question c.args.frames.now (c.args.level + 1)) (sym c.in_ok-clause.ensures.2)
    (relative-is st c.args.frames.now c.args.level longer excluded.none c.requires.search.agree))

pub returns-clause-narrower : goal.returns-clause-narrower
returns-clause-narrower g c =
    on_both c.put_lemma.result _ _ _
    (λ search is.
    narrower_with c.args.aim.now.starts.now (g.S.StepSolver.seen c.args.steps.now) (g.S.StepSolver.seen c.put_lemma.new.steps) c.args.frames.now
    c.put_lemma.new.frames c.in_ok-next.next c.in_ok-clause.clause search c.put_lemma.ensures.question
    (omega (arith, c.requires.next, c.in_ok-next.ensures)) is)
    c.put_lemma.ensures.search c.put_lemma.ensures.frames
