use Rattle.std.proofs.Common.{◌<◌, ◌∷◌, [], ◌++◌, map, take, length, sym, ap, ◌∙◌, subst, arith}
use Rattle.std.specs.List.{All}
use Rattle.std.proofs.lemmas.List.{map_more}
use Rattle.std.proofs.lemmas.List.Elements.{All-push}
use Rattle.fair_workers.specs.declared.board_workers.BoardWorker.{BoardWorker}
use Rattle.fair_workers.specs.declared.ending.WorkerEnd.{WorkerEnd}
use Rattle.fair_workers.specs.Runs.{IsInBudget}
use Rattle.fair_workers.specs.Ends.{end_as}
use Rattle.fair_workers.proofs.board_workers.ends_of.Goals as goal

abbrev ended_as : BoardWorker → WorkerEnd
ended_as m = end_as m.worker

pub loop-k-preserved : goal.loop-k-preserved
loop-k-preserved c =
    let before = c.loop-k.invariant in
    let workers = c.args.workers.now in
    let end : WorkerEnd = c.end_of.result in
    let below : c.loop-k.k < length c.args.workers.now = omega (arith, c.loop-k-test.true, before.last) in
    record {
      ends = c.push_reserved.ensures.items ∙ ap (λ xs. xs ++ end ∷ []) before.ends
          ∙ ap (λ (e : WorkerEnd). map ended_as (take c.loop-k.k workers) ++ e ∷ []) c.end_of.ensures.end
          ∙ sym (map_more ended_as workers c.loop-k.k c.index-workers-k.result below);
      within = subst (All (λ (e : WorkerEnd). IsInBudget e.spent)) (sym c.push_reserved.ensures.items)
          (All-push (λ (e : WorkerEnd). IsInBudget e.spent) c.loop-k.ends.items end before.within c.end_of.ensures.within);
      count = omega (arith, c.push_reserved.ensures.len, before.count);
      room = omega (arith, c.push_reserved.ensures.capacity, before.room);
      last = before.last;
    }
