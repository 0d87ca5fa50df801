use Rattle.std.proofs.Common.{◌≡◌, ◌+◌, [], get_or, ap, ◌∙◌, subst, arith}
use Rattle.std.specs.Result.{OnOk}
use Rattle.ic3_frames.specs.Frames.{own_lemmas, with_lemma}
use Rattle.ic3_frames.specs.Kept.{keys_of, StandOnce}
use Rattle.ic3_frames.proofs.Steps.{kept-once, pushed-moved}
use Rattle.ic3_frames.proofs.frames.Frames.push_on.Goals as goal

pub invariant_of-self : goal.invariant_of-self
invariant_of-self c = record {
  once =
      kept-once c.put.result (keys_of c.self.inside.levels.items) (keys_of c.put.new.levels.items) (c.args.level + 1) c.in_ok-lemma.lemma c.put.ensures.ok c.put.ensures.err
      c.self.invariant.once;
  counts = omega arith;
}

pub returns-clause-moved : goal.returns-clause-moved
returns-clause-moved c =
    let k = c.args.level in
    let is = ap keys_of c.deref.ensures.value ∙ c.self.view_is in
    let lemma = c.in_ok-lemma.ensures ∙ ap (λ levels. get_or (own_lemmas levels k) c.args.place []) is in
    let ok = subst (λ levels. OnOk c.put.result (keys_of c.put.new.levels.items ≡ with_lemma levels (k + 1) c.in_ok-lemma.lemma)) c.self.view_is c.put.ensures.ok in
    pushed-moved c.put.result c.args.self.now (keys_of c.put.new.levels.items) k c.args.place c.in_ok-lemma.lemma
    (omega arith) (subst StandOnce c.self.view_is c.self.invariant.once) c.requires.place lemma ok
