use Rattle.std.proofs.Common.{filter, sym, ap, ◌∙◌, arith}
use Rattle.ic3_frames.specs.Frames.{stays}
use Rattle.ic3_frames.proofs.Steps.{taken-keys, rest-kept}
use Rattle.ic3_frames.proofs.levels.take_out.Goals as goal

pub loop-k-preserved : goal.loop-k-preserved
loop-k-preserved c = record {
  keys =
      taken-keys c.args.levels.now c.loop-k.levels c.loop-k.k c.index-levels-k.result c.take_from.new.own c.args.lemma.now
      c.index-levels-k.is (omega arith) (omega arith) c.loop-k.invariant.keys
      (c.take_from.ensures.keys ∙ ap (λ s. filter (stays c.loop-k.k c.args.lemma.now) s.keys) (sym c.index-levels-k.is));
  rest = rest-kept c.args.levels.now c.loop-k.levels c.loop-k.k c.take_from.new.own c.loop-k.invariant.rest;
}
