use Rattle.std.proofs.Common.{◌≡◌, sym, subst}
use denote.Exit.{yes}
use denote.Param.Send.{param_send, arg_send}
use Rattle.wall_ledger.specs.contracts.ledger.Pass as Pass
use Rattle.wall_ledger.proofs.Crossing.{pass_send}
use Rattle.ledger_tests.proofs.racing.race_each.Goals as goal

pub for_each_mut-requires-send-T : goal.for_each_mut-requires-send-T
for_each_mut-requires-send-T g c κs lives = param_send _ _ (arg_send _ yes Pass.the_row pass_send)

pub for_each_mut-requires-clause-accepts : goal.for_each_mut-requires-clause-accepts
for_each_mut-requires-clause-accepts g c κs lives = λ i p below at.
    record {
      of = c.requires.of;
      circuit = c.requires.circuit;
      home = subst (λ q. q.home ≡ c.args.race.now.ledger.now.home) (sym at) (c.requires.own i p.now below);
    }
