-- A runner may go to another thread: a search finds this of each of its parts, but not of all at once.
use Rattle.std.proofs.Common.{rules}
use denote.Param.Send.{IsSend, sendable}
use denote.Param.SendFields.{declared_send}
use Rattle.std.proofs.Crossing.{crosses}
use Rattle.std.specs.contracts.option.Option as Option
use Rattle.edge.proofs.metering.Spending.TheSendSync as spending
use Rattle.wall_ledger.specs.contracts.ledger.Pass as Pass
use Rattle.wall_ledger.proofs.Crossing.{pass_send}
use Rattle.fair_workers.specs.contracts.ending.WorkerEnd as WorkerEnd
use Rattle.fair_workers.specs.contracts.runners.Runner as Runner

passes_send : IsSend (Option.the_row Pass.the_row)
passes_send = search (pass_send, rules, sendable, crosses) depth 20

end_send : IsSend WorkerEnd.the_row
end_send =
    declared_send WorkerEnd.the_type
    (spending.the_send, (search (rules, sendable, crosses) depth 20, (search (rules, sendable, crosses) depth 20, tt)))

ends_send : IsSend (Option.the_row WorkerEnd.the_row)
ends_send = search (end_send, rules, sendable, crosses) depth 20

pub runner_send : IsSend Runner.the_row
runner_send = declared_send Runner.the_type (passes_send, (ends_send, tt))
