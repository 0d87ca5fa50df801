use Rattle.std.proofs.Common.{rules, sym, subst}
use denote.Exit.{yes}
use denote.Param.Send.{param_send, arg_send, sendable}
use Rattle.std.proofs.Crossing.{crosses}
use Rattle.fair_workers.specs.contracts.runners.Runner as Runner
use Rattle.fair_workers.specs.OnThreads.{MayRun}
use Rattle.fair_workers.proofs.RunnersCross.{runner_send}
use Rattle.fair_workers.proofs.threads.run_each.Goals as goal

pub for_each_mut-requires-send-T : goal.for_each_mut-requires-send-T
for_each_mut-requires-send-T g c κs lives = param_send _ _ (arg_send _ yes Runner.the_row runner_send)

pub for_each_mut-requires-clause-accepts : goal.for_each_mut-requires-clause-accepts
for_each_mut-requires-clause-accepts g c κs lives = λ i p below at.
    let t = c.args.run.now.task.now in (
      subst (MayRun t.limits t.properties.now c.args.ledger.now) (sym at) (c.requires.ready i p.now below),
      (search (rules, sendable, crosses) depth 20, search (rules, sendable, crosses) depth 20),
    )
