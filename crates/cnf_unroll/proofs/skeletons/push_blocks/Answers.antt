use Rattle.std.proofs.Common.{◌≡◌, ◌+◌, ◌-◌, ◌*◌, ◌++◌, suc, sym, ap, ◌∙◌, arith}
use Rattle.cnf_unroll.specs.Numbers.{block_places}
use Rattle.cnf_unroll.specs.Blocks.{block_clauses}
use Rattle.cnf_unroll.specs.Obligations.{blocks_clauses, blocks_places, after_blocks}
use Rattle.cnf_unroll.proofs.BlockSteps.{moved, blocks_more, places_more, after_more}
use Rattle.cnf_unroll.proofs.skeletons.push_blocks.Goals as goal

pub loop-block-preserved : goal.loop-block-preserved
loop-block-preserved c =
    let left : c.args.count - c.loop-block._block ≡ suc (c.args.count - (c.loop-block._block + 1)) = omega arith in
    let size : 2 * c.max.result + 2 ≡ 2 * c.args.c.now.max + 2 = ap (λ x. 2 * x + 2) c.max.ensures.value in
    let here = ap (λ x. c.loop-block.base + x) (sym size) in
    record {
      clauses =
          moved c.loop-block.db.clauses _ (block_clauses c.args.c.now c.loop-block.base) _ _ _ c.in_ok-push_block.ensures
          (blocks_more c.args.c.now c.loop-block.base _ _ left ∙ ap (λ x. block_clauses c.args.c.now c.loop-block.base ++ blocks_clauses c.args.c.now x (c.args.count - (c.loop-block._block + 1))) here)
          c.loop-block.invariant.clauses;
      places =
          moved c.loop-block.places _ (block_places c.args.c.now c.loop-block.base) _ _ _ c.in_ok-push_places.ensures
          (places_more c.args.c.now c.loop-block.base _ _ left ∙ ap (λ x. block_places c.args.c.now c.loop-block.base ++ blocks_places c.args.c.now x (c.args.count - (c.loop-block._block + 1))) here)
          c.loop-block.invariant.places;
      after =
          ap (λ x. after_blocks c.args.c.now x (c.args.count - (c.loop-block._block + 1))) (sym here)
          ∙ sym (after_more c.args.c.now c.loop-block.base _ _ left)
          ∙ c.loop-block.invariant.after;
      small =
          let most = c.max.ensures.limits.max in
          let value = c.max.ensures.value in
          let before = c.loop-block.invariant.small in
          omega arith;
    }
