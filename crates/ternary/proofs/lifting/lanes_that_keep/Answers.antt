use Rattle.std.proofs.Common.{◌≡◌, ◌∙◌, sym, subst, take, arith}
use Rattle.std.proofs.lemmas.List.{take_all}
use Rattle.ternary.specs.Lanes.{in_lane}
use Rattle.ternary.specs.Lifting.{AreOne}
use Rattle.ternary.proofs.Words.{all-ones, bits-both, bits-join}
use Rattle.ternary.proofs.Ahead.{one-more, one-less, one-last}
use Rattle.ternary.proofs.lifting.lanes_that_keep.Goals as goal
use Rattle.std.proofs.Common.{refl}

pub loop-literal-init : goal.loop-literal-init
loop-literal-init c = λ k below. (λ e j d inside. absurd (omega arith), λ e. all-ones 18446744073709551615 k refl below)

pub loop-literal-preserved : goal.loop-literal-preserved
loop-literal-preserved c =
    λ k below.
    let before = c.loop-literal.invariant k below in
    let now = c.ones-lanes.ensures k below in
    let value = c.literal3_lanes.ensures k below in (
      λ e.
          let both = bits-both c.loop-literal.lanes c.ones-lanes.result k e in
          one-more (in_lane k c.args.values.now) c.args.keep.now c.loop-literal.literal-index 0 c.loop-literal-test.true (before.0 both.0) (sym value ∙ now.0 both.1),
      λ all.
          bits-join c.loop-literal.lanes c.ones-lanes.result k
          (before.1 (one-less (in_lane k c.args.values.now) c.args.keep.now c.loop-literal.literal-index c.loop-literal-test.true all))
          (now.1 (value ∙ one-last (in_lane k c.args.values.now) c.args.keep.now c.loop-literal.literal-index 0 c.loop-literal-test.true all)),
    )

pub returns : goal.returns
returns c =
    λ k below.
    let whole : take c.loop-literal.literal-index c.args.keep.now ≡ c.args.keep.now = take_all c.loop-literal.literal-index c.args.keep.now c.loop-literal-test.false in
    let held = c.loop-literal.invariant k below in
    (λ e. subst (λ xs. AreOne (in_lane k c.args.values.now) xs) whole (held.0 e), λ all. held.1 (subst (λ xs. AreOne (in_lane k c.args.values.now) xs) (sym whole) all))
