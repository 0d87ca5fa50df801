use Rattle.std.proofs.lemmas.List.Elements.{All-pop}
use Rattle.fair_round.specs.Pools.{IsReachedRun}
use Rattle.fair_round.proofs.pool.take_last.Goals as goal

pub returns-clause-runs : goal.returns-clause-runs
returns-clause-runs c =
    (All-pop (IsReachedRun c.args._c.now) c.args.runs.now.items c.pop.new.self.items c.pop.result c.pop.ensures.items c.requires).0
