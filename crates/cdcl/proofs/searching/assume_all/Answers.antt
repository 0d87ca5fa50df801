use Rattle.std.proofs.Common.{◌∙◌, sym}
use Rattle.cdcl.proofs.SearchLaws.{assumes_more, true_now}
use Rattle.cdcl.proofs.searching.assume_all.Goals as goal

pub loop-literal-preserved-in_default : goal.loop-literal-preserved-in_default
loop-literal-preserved-in_default c = record {
  some = assumes_more c.args.assumptions.now c.args.trail.now.steps c.loop-literal.trail.steps c.assume.new.self.steps c.loop-literal.literal-index c.loop-literal-test.true
      c.in_ok-assume.ensures.ok c.loop-literal.invariant.some;
  so_far = true_now c.args.assumptions.now c.loop-literal.trail.steps c.assume.new.self.steps c.loop-literal.literal-index c.loop-literal-test.true
      (sym c.value.ensures ∙ c.in_default.is) c.in_ok-assume.ensures.ok c.loop-literal.invariant.so_far;
  taken = c.assume.ensures.watch.taken ∙ c.loop-literal.invariant.taken;
}
