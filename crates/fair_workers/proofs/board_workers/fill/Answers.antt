use Rattle.std.proofs.Common.{ℕ, ◌<◌, List, ◌∷◌, [], length, sym, ap, ◌∙◌, subst, arith}
use Rattle.std.specs.Arc.{arc_value}
use Rattle.edge.specs.Units.{Spendings}
use Rattle.std.proofs.lemmas.List.{length-append, length-map}
use Rattle.fair_workers.specs.Runs.{IsWithLimits}
use Rattle.wall_store.specs.Boards.{properties_of}
use Rattle.fair_workers.specs.BoardWorkers.{AreWorkers, IsBoardWorker}
use Rattle.fair_workers.specs.Working.{Begins}
use Rattle.fair_workers.proofs.Together.{worker-first, sparing-first, workers-push}
use Rattle.fair_workers.proofs.board_workers.fill.Goals as goal

pub loop-number-preserved : goal.loop-number-preserved
loop-number-preserved c =
    let b = c.args.board.now in
    let fresh = c.requires.fresh in
    let workers = c.loop-number.workers.items in
    let w = c.new_worker.result in
    let made = c.new_worker.ensures in
    let number = made.number in
    let below : w.number < b.workers = omega (arith, number, c.loop-number-test.true, fresh.workers) in
    let whole = fresh.seen w.number below in
    let seen = made.seen ∙ sym (length-map c.entries-seen.result.now (λ x. arc_value x)) ∙ ap length c.entries-seen.ensures.checked ∙ sym whole in
    let begins : Begins c.args.task.now.limits (properties_of b.served) w.number w.worker =
    subst (λ (n : ℕ). Begins c.args.task.now.limits (properties_of b.served) n w.worker) (sym number)
    (subst (λ (js : List ℕ). Begins c.args.task.now.limits js c.loop-number.number w.worker) (sym fresh.properties) made.begins)
    in
    let is : IsBoardWorker b w =
    worker-first c.args.task.now.limits b w c.holds.ensures below fresh.limits.depth fresh.served begins made.turns seen whole fresh.fresh
    in
    let within : IsWithLimits c.args.task.now.limits w.worker.meter = record {
      conflicts = ap (λ (m : Spendings). m.conflict_limit) made.meter;
      steps = ap (λ (m : Spendings). m.step_limit) made.meter;
    } in
    record {
      count = omega (arith, ap length c.in_ok-push.ensures.items, length-append workers (w ∷ []), c.loop-number.invariant.count);
      workers = subst (AreWorkers c.args.task.now.limits b) (sym c.in_ok-push.ensures.items)
          (workers-push c.args.task.now.limits b workers w c.loop-number.invariant.workers (number ∙ sym c.loop-number.invariant.count) is begins.kind within
          (sparing-first c.args.task.now.limits b w c.holds.ensures below fresh.grows whole begins (ap (λ (m : Spendings). m.steps) made.meter))
          fresh.fresh);
    }
