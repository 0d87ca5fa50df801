use Rattle.std.proofs.Common.{ap, ◌∙◌, arith}
use Rattle.proof_semantics.specs.Clauses.{clauses_value}
use Rattle.ic3_frames.specs.Frames.{frame_at, with_lemma}
use Rattle.ic3_frames.specs.Kept.{keys_of}
use Rattle.ic3_frames.proofs.Meaning.{with-within, with-above}
use Rattle.ic3_frames.proofs.Steps.{kept-once, on-ok}
use Rattle.ic3_frames.proofs.frames.Frames.add.Goals as goal

pub invariant_of-self-2 : goal.invariant_of-self-2
invariant_of-self-2 c = record {
  once =
      kept-once c.put.result (keys_of c.self.inside.levels.items) (keys_of c.put.new.levels.items) c.args.level c.args.lemma c.put.ensures.ok c.put.ensures.err
      c.self.invariant.once;
  counts = omega arith;
}

pub returns-clause-within : goal.returns-clause-within
returns-clause-within c =
    on-ok c.put.result _ _
    (λ put v k below.
    ap (λ levels. clauses_value v (frame_at levels k)) (put ∙ ap (λ levels. with_lemma levels c.args.level c.args.lemma) c.self.view_is)
    ∙ with-within v c.args.self.now c.args.level c.args.lemma k c.requires below)
    c.put.ensures.ok

pub returns-clause-above : goal.returns-clause-above
returns-clause-above c =
    on-ok c.put.result _ _
    (λ put k above.
    ap (λ levels. frame_at levels k) (put ∙ ap (λ levels. with_lemma levels c.args.level c.args.lemma) c.self.view_is)
    ∙ with-above c.args.self.now c.args.level c.args.lemma k above)
    c.put.ensures.ok
