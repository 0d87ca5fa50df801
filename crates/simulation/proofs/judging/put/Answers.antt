use Rattle.std.proofs.Common.{Bool, List, sym, subst}
use Rattle.std.specs.List.{All}
use Rattle.std.proofs.lemmas.List.Elements.{All-push}
use Rattle.lasso_join.specs.Fitting.{IsStemTo}
use Rattle.simulation.proofs.judging.put.Goals as goal

pub returns : goal.returns
returns c =
    subst (All (λ run. (t : List Bool) × IsStemTo c.args._c.now t run)) (sym c.in_ok-push.ensures.items)
    (All-push (λ run. (t : List Bool) × IsStemTo c.args._c.now t run) c.args.runs.now.items c.args.run c.requires.runs c.requires.run)
