use Rattle.std.proofs.Common.{◌+◌, [], length, map, refl, sym, subst, ◌∙◌}
use Rattle.std.proofs.lemmas.Bool.{false≢true}
use Rattle.proof_semantics.specs.Clauses.{negation}
use Rattle.ic3_semantics.specs.Stepping.{Stepping, IsOver}
use Rattle.ic3_loops.specs.Sound.{IsSearch, IsRelative}
use Rattle.ic3_frames.specs.Witnessing.{IsStuck}
use Rattle.ic3_loops.specs.Holding.{TellsOn}
use Rattle.ic3_loops.proofs.Stuck.{all_own, missing_relative, none_tried, pushed_tried, pushed_stay}
use Rattle.ic3_loops.proofs.Narrower.{narrower_none, narrower_same}
use Rattle.ic3_loops.proofs.propagating.try_push.Goals as goal

pub returns-then-not-has_lemma-clause-tried : goal.returns-then-not-has_lemma-clause-tried
returns-then-not-has_lemma-clause-tried g c = λ behind.
    none_tried (g.S.StepSolver.seen c.args.steps.now).question c.args.frames.now c.args.at.level c.args.at.place
    (λ below. false≢true (sym c.if-not-has_lemma.true ∙ c.has_lemma.ensures.1 below))

pub returns-then-not-has_lemma-clause-narrower : goal.returns-then-not-has_lemma-clause-narrower
returns-then-not-has_lemma-clause-narrower g c =
    narrower_none c.args.aim.now.starts.now (g.S.StepSolver.seen c.args.steps.now) c.args.frames.now c.requires.search

pub tried-requires-clause-over : goal.tried-requires-clause-over
tried-requires-clause-over g c =
    let n = length (g.S.StepSolver.seen c.args.steps.now).question.circuit.latches in
    subst (IsOver n) (sym c.in_ok-clause.ensures)
    (all_own (IsOver n) c.args.frames.now c.args.at.level c.requires.search.sound.over c.args.at.place []
    (c.has_lemma.ensures.0 c.if-not-has_lemma.false))

pub push_one-requires-clause-relative : goal.push_one-requires-clause-relative
push_one-requires-clause-relative g c =
    let st : Stepping = (g.S.StepSolver.seen c.args.steps.now) in
    let lemma = c.in_ok-clause.clause in
    subst (λ (s : Stepping). IsRelative s.question c.args.frames.now (c.args.at.level + 1) lemma) (sym c.in_ok-tried.ensures.same)
    (missing_relative st c.args.frames.now c.args.at.level (map negation lemma) c.in-Some.field-0 lemma refl
    (subst (TellsOn st c.args.frames.now c.args.at.level lemma) c.in-Some.is c.in_ok-tried.ensures.told) c.requires.search.agree)

pub returns-in-Some-clause-tried : goal.returns-in-Some-clause-tried
returns-in-Some-clause-tried g c =
    pushed_tried (g.S.StepSolver.seen c.args.steps.now).question c.args.frames.now c.push_one.new.frames c.args.at.level c.args.at.place
    (c.has_lemma.ensures.0 c.if-not-has_lemma.false) c.in_ok-push_one-in-Some.ensures.pushed

pub returns-in-Some-clause-stay : goal.returns-in-Some-clause-stay
returns-in-Some-clause-stay g c =
    pushed_stay (g.S.StepSolver.seen c.args.steps.now).question c.args.frames.now c.push_one.new.frames c.args.at.level c.args.at.place
    c.in_ok-push_one-in-Some.ensures.pushed
