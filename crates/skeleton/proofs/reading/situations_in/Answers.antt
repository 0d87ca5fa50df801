use Rattle.std.proofs.Common.{◌≡◌, ◌+◌, ◌-◌, ◌*◌, ◌++◌, [], ◌∷◌, suc, sym, ap, ◌∙◌, arith}
use Rattle.cdcl.specs.Asking.{assigned}
use Rattle.cnf_unroll.specs.Situations.{situation_in}
use Rattle.cnf_unroll.proofs.BlockSteps.{moved}
use Rattle.cnf_unroll.specs.Situations.{situations_in}
use Rattle.skeleton.proofs.Made.{situations_more}
use Rattle.skeleton.proofs.reading.situations_in.Goals as goal

pub loop-block-preserved : goal.loop-block-preserved
loop-block-preserved c =
    let v = assigned c.args.solver.now.values in
    let left : c.args.count - c.loop-block._block ≡ suc (c.args.count - (c.loop-block._block + 1)) = omega arith in
    let size : 2 * c.max.result + 2 ≡ 2 * c.args.c.now.max + 2 = ap (λ x. 2 * x + 2) c.max.ensures.value in
    let here = ap (λ x. c.loop-block.base + x) (sym size) in
    record {
      situations =
          moved c.loop-block.situations _ (situation_in c.args.c.now c.loop-block.base v ∷ []) _ _ _
          (c.in_ok-push.ensures.ok ∙ ap (λ s. c.loop-block.situations ++ s ∷ []) c.in_ok-situation_in.ensures)
          (situations_more c.args.c.now c.loop-block.base _ _ v left
          ∙ ap (λ x. situation_in c.args.c.now c.loop-block.base v ∷ situations_in c.args.c.now x (c.args.count - (c.loop-block._block + 1)) v) here)
          c.loop-block.invariant.situations;
      small =
          let most = c.max.ensures.limits.max in
          let value = c.max.ensures.value in
          let before = c.loop-block.invariant.small in
          omega arith;
    }
