use Rattle.std.proofs.Common.{sym, subst}
use Rattle.std.specs.List.{All}
use Rattle.std.proofs.lemmas.List.Elements.{All-drop}
use Rattle.fair_round.specs.Pools.{IsRun}
use Rattle.fair_round.proofs.pool.drop_oldest.Goals as goal

pub returns-then-len-ge-MOST_RUNS : goal.returns-then-len-ge-MOST_RUNS
returns-then-len-ge-MOST_RUNS c =
    subst (All (IsRun c.args._c.now)) (sym c.remove.ensures.items) (All-drop (IsRun c.args._c.now) 1 c.args.runs.now.items c.requires)
