use Rattle.std.proofs.Common.{length}
use Rattle.fair_round.proofs.Counting.{asks-one}
use Rattle.fair_round.proofs.ways.searched.Goals as goal

pub returns-in-Ok-clause-counted : goal.returns-in-Ok-clause-counted
returns-in-Ok-clause-counted c = asks-one (length c.args.scope.now.circuit.now.latches) c.args.meter.now c.reach.new.meter c.reach.ensures.counted

pub returns-in-Err-clause-counted : goal.returns-in-Err-clause-counted
returns-in-Err-clause-counted c = asks-one (length c.args.scope.now.circuit.now.latches) c.args.meter.now c.reach.new.meter c.reach.ensures.counted
