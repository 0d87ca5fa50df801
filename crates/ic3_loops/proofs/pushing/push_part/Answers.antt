use Rattle.std.proofs.Common.{◌≡◌, true, [], length, map, sym, subst}
use Rattle.proof_semantics.specs.Clauses.{negation}
use Rattle.ic3_semantics.specs.Stepping.{Stepping, IsOver, IsMissing}
use Rattle.ic3_loops.specs.Sound.{IsSearch, has_one_of}
use Rattle.ic3_loops.specs.Holding.{TellsOn}
use Rattle.ic3_loops.proofs.Stuck.{all_own}
use Rattle.ic3_loops.proofs.Narrower.{narrower_none, narrower_same}
use Rattle.ic3_loops.proofs.pushing.push_part.Goals as goal

pub returns-then-not-has_lemma-clause-narrower : goal.returns-then-not-has_lemma-clause-narrower
returns-then-not-has_lemma-clause-narrower g c =
    narrower_none c.args.aim.now.starts.now (g.S.StepSolver.seen c.args.steps.now) c.args.frames.now c.requires.search

pub tried-requires-clause-over : goal.tried-requires-clause-over
tried-requires-clause-over g c =
    let n = length (g.S.StepSolver.seen c.args.steps.now).question.circuit.latches in
    subst (IsOver n) (sym c.in_ok-clause.ensures)
    (all_own (IsOver n) c.args.frames.now c.args.at.level c.requires.search.sound.over c.args.at.place []
    (c.has_lemma.ensures.0 c.if-not-has_lemma.false))

pub put_part-requires-clause-over : goal.put_part-requires-clause-over
put_part-requires-clause-over g c =
    subst (λ (st : Stepping). IsOver (length st.question.circuit.latches) c.in_ok-clause.clause) (sym c.in_ok-part.ensures.same)
    (let n = length (g.S.StepSolver.seen c.args.steps.now).question.circuit.latches in
    subst (IsOver n) (sym c.in_ok-clause.ensures)
    (all_own (IsOver n) c.args.frames.now c.args.at.level c.requires.search.sound.over c.args.at.place []
    (c.has_lemma.ensures.0 c.if-not-has_lemma.false)))

pub put_part-requires-clause-based : goal.put_part-requires-clause-based
put_part-requires-clause-based g c =
    subst (λ lemma. has_one_of c.args.aim.now.starts.now lemma ≡ true) (sym c.in_ok-clause.ensures)
    (all_own (λ clause. has_one_of c.args.aim.now.starts.now clause ≡ true) c.args.frames.now c.args.at.level c.requires.search.sound.based c.args.at.place []
    (c.has_lemma.ensures.0 c.if-not-has_lemma.false))
