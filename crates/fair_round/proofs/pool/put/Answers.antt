use Rattle.std.proofs.Common.{sym, subst}
use Rattle.std.specs.List.{All}
use Rattle.std.proofs.lemmas.List.Elements.{All-push}
use Rattle.fair_round.specs.declared.pool.Run.{Run}
use Rattle.fair_round.specs.Pools.{IsRun}
use Rattle.fair_round.proofs.pool.put.Goals as goal

pub returns-in_err-push : goal.returns-in_err-push
returns-in_err-push c = subst (All (IsRun c.args._c.now)) (sym c.in_err-push.ensures.items) c.requires.runs

pub returns : goal.returns
returns c =
    let t : Run = record { positions = c.args.positions; left = c.args.left } in
    let is : IsRun c.args._c.now t = record { run = c.requires.run; within = c.requires.left } in
    subst (All (IsRun c.args._c.now)) (sym c.in_ok-push.ensures.items) (All-push (IsRun c.args._c.now) c.args.runs.now.items t c.requires.runs is)
