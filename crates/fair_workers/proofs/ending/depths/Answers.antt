use Rattle.std.proofs.Common.{◌<◌, ◌++◌, [], length, get_or, sym, ap, ◌∙◌, arith}
use Rattle.fair_workers.specs.Ends.{with_done}
use Rattle.fair_workers.proofs.Causes.{depths-more}
use Rattle.fair_workers.proofs.ending.depths.Goals as goal

pub loop-k-preserved : goal.loop-k-preserved
loop-k-preserved c =
    let before = c.loop-k.invariant in
    let ends = c.args.ends.now in
    let below : c.loop-k.k < length ends = omega (arith, c.loop-k-test.true, before.last) in
    record {
      depths = c.put_done.ensures.depths ∙ ap (λ ds. ds ++ with_done (get_or ends c.loop-k.k c.index-ends-k.result).done []) before.depths
          ∙ sym (depths-more ends c.loop-k.k c.index-ends-k.result below);
      count = omega (arith, c.put_done.ensures.len, before.count);
      room = omega (arith, c.put_done.ensures.capacity, before.room);
      last = before.last;
    }
