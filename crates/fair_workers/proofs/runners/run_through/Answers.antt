use Rattle.std.proofs.Common.{refl, sym, ap, ◌∙◌}
use Rattle.wall_ledger.specs.Passes.{PassState}
use Rattle.wall_ledger.proofs.Events.{some_same}
use Rattle.fair_workers.proofs.runners.run_through.Goals as goal

pub returns : goal.returns
returns g c =
    let p : PassState = c.taken-pass.result in
    record {
      pass = c.run_held-end.new.held.pass;
      held = refl;
      end = c.run_held-end.result;
      kept = refl;
      number = λ q e. c.run_held-end.ensures.number ∙ ap (λ (r : PassState). r.number) (some_same p q (sym c.taken-pass.ensures.pass ∙ e));
      own = c.own_turns.ensures;
      through = c.run_held-end.ensures.through;
    }
