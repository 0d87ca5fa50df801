use Rattle.std.proofs.Common.{length, [], refl, sym, ap, subst, ◌∙◌, append-nil}
use Rattle.std.proofs.lemmas.Bool.{false≢true}
use Rattle.ic3_frames.specs.Frames.{own_lemmas}
use Rattle.ic3_semantics.specs.Stepping.{IsOver}
use Rattle.ic3_loops.proofs.Ended.{keeps_on}
use Rattle.ic3_loops.proofs.HeldLemmas.{next_placed, whole_placed}
use Rattle.ic3_loops.proofs.resuming.hold_own.Goals as goal

pub places-init : goal.places-init
places-init g c = record {
  lemmas = sym (append-nil (g.S.StepSolver.seen c.args.steps.now).lemmas);
  question = record { question = refl; avoid = refl };
}

pub hold-requires : goal.hold-requires
hold-requires g c =
    subst (λ x. IsOver (length x.circuit.latches) c.in_ok-lemma.lemma) (sym c.places.invariant.question.question)
    (subst (IsOver (length (g.S.StepSolver.seen c.args.steps.now).question.circuit.latches)) (sym c.in_ok-lemma.ensures)
    (c.requires c.places.place [] (c.has_lemma.ensures.0 c.places-test.true)))

pub places-preserved : goal.places-preserved
places-preserved g c = record {
  lemmas =
      next_placed c.args.level (g.S.StepSolver.seen c.args.steps.now).lemmas (g.S.StepSolver.seen c.places.steps).lemmas (g.S.StepSolver.seen c.hold.new.self).lemmas (own_lemmas c.args.frames.now c.args.level)
      c.places.place c.in_ok-place.place c.in_ok-lemma.lemma (c.has_lemma.ensures.0 c.places-test.true) c.in_ok-place.ensures c.in_ok-lemma.ensures
      c.places.invariant.lemmas (ap (λ s. s.lemmas) c.in_ok-hold.ensures.ok);
  question =
      keeps_on (g.S.StepSolver.seen c.args.steps.now) (g.S.StepSolver.seen c.places.steps) (g.S.StepSolver.seen c.hold.new.self) c.places.invariant.question
      (record { question = ap (λ s. s.question) c.in_ok-hold.ensures.ok; avoid = ap (λ s. s.avoid) c.in_ok-hold.ensures.ok });
}

pub returns-clause-lemmas : goal.returns-clause-lemmas
returns-clause-lemmas g c =
    whole_placed c.args.level (g.S.StepSolver.seen c.args.steps.now).lemmas (g.S.StepSolver.seen c.places.steps).lemmas (own_lemmas c.args.frames.now c.args.level) c.places.place
    (λ below. false≢true (sym c.places-test.false ∙ c.has_lemma.ensures.1 below)) c.places.invariant.lemmas
