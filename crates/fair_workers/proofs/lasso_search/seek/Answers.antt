use Rattle.fair_workers.proofs.LassoTurns.{found-behind, first-more, deepened-found}
use Rattle.fair_workers.proofs.lasso_search.seek.Goals as goal

pub returns-then-is_first-clause-behind : goal.returns-then-is_first-clause-behind
returns-then-is_first-clause-behind c =
    found-behind c.args.c.now c.args.j c.args.after c.args.search.now c.is_first.result c.in_ok-found.found c.requires.before c.is_first.ensures c.if-is_first.true

pub deepened-requires-clause-more : goal.deepened-requires-clause-more
deepened-requires-clause-more c = first-more c.args.search.now c.args.after c.is_first.result c.is_first.ensures c.if-is_first.false

pub returns-clause-behind : goal.returns-clause-behind
returns-clause-behind c =
    let d = c.deepened.ensures.deepened in
    deepened-found c.deepened.result c.args.c.now c.args.j c.args.after c.args.search.now c.deepened.new.search c.is_first.result c.requires.before
    c.is_first.ensures c.if-is_first.false d.depth d.done d.solver
