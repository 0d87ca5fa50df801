use Rattle.std.proofs.Common.{rules}
use Rattle.std.proofs.lemmas.Result.{on_ok_weaker}
use Rattle.ic3_loops.proofs.Broken.{breaks-at, breaks-none}
use Rattle.ic3_loops.proofs.ending.put_broken.Goals as goal

pub returns-in-Some : goal.returns-in-Some
returns-in-Some c =
    on_ok_weaker c.put_denied.result
    (λ made.
    breaks-at c.args.clauses.now c.args.state.now c.args.cube.now c.put_denied.new.cube c.in-Some.i c.index-clauses-i.result
    c.in-Some.ensures.found.0 c.index-clauses-i.is c.in-Some.ensures.found.1 made)
    c.put_denied.ensures

pub returns-in-None : goal.returns-in-None
returns-in-None c = breaks-none c.args.clauses.now c.args.state.now c.args.cube.now (search rules)
