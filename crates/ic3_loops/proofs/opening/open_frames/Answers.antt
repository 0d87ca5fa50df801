use Rattle.std.proofs.Common.{◌<◌, [], get_or, false, length, take, refl, ap, sym, subst, ◌∙◌, arith}
use Rattle.std.proofs.lemmas.List.Elements.{All-nil, All-cons}
use Rattle.proof_semantics.specs.declared.literals.Lit.{Lit}
use Rattle.ic3_frames.specs.Frames.{with_lemma}
use Rattle.ic3_semantics.specs.Searching.{Question}
use Rattle.ic3_semantics.specs.Stepping.{IsOver}
use Rattle.ic3_loops.proofs.Begins.{begun-first, begun-more, agree-first}
use Rattle.ic3_loops.proofs.Ended.{keeps_on}
use Rattle.ic3_loops.proofs.opening.open_frames.Goals as goal

abbrev no_literal : Lit
no_literal = record { var = 0; positive = false }

pub loop-i-init : goal.loop-i-init
loop-i-init g c = record {
  begun = begun-first (g.S.StepSolver.seen c.args.steps.now).question c.args.starts.now (take 0 c.args.starts.now) c.in_ok-frames.frames c.in_ok-frames.ensures refl;
  agree = agree-first (g.S.StepSolver.seen c.args.steps.now).lemmas c.in_ok-frames.frames c.requires.none c.in_ok-frames.ensures;
  question = record { question = refl; avoid = refl };
}

pub loop-i-preserved : goal.loop-i-preserved
loop-i-preserved g c =
    let put = c.in_ok-put_first.ensures.frames ∙ ap (with_lemma c.loop-i.frames 0) (c.in_ok-unit.ensures no_literal) in
    record {
      begun =
          begun-more (g.S.StepSolver.seen c.args.steps.now).question c.args.starts.now (take c.loop-i.i c.args.starts.now) c.loop-i.frames c.put_first.new.frames c.loop-i.i
          no_literal c.requires.cube.over (omega arith) refl c.loop-i.invariant.begun put;
      agree = c.in_ok-put_first.ensures.agree;
      question = keeps_on (g.S.StepSolver.seen c.args.steps.now) (g.S.StepSolver.seen c.loop-i.steps) (g.S.StepSolver.seen c.put_first.new.steps) c.loop-i.invariant.question c.in_ok-put_first.ensures.question;
    }

pub put_first-requires-clause-over : goal.put_first-requires-clause-over
put_first-requires-clause-over g c =
    let n = length (g.S.StepSolver.seen c.args.steps.now).question.circuit.latches in
    subst (λ (q : Question). IsOver (length q.circuit.latches) c.in_ok-unit.unit) (sym c.loop-i.invariant.question.question)
    (subst (IsOver n) (sym (c.in_ok-unit.ensures no_literal))
    (All-cons (λ l. l.var < n) (get_or c.args.starts.now c.loop-i.i no_literal) []
    (c.requires.cube.over c.loop-i.i no_literal (omega arith)) (All-nil (λ l. l.var < n))))
