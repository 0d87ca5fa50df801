use Rattle.std.proofs.Common.{subst}
use Rattle.cdcl.specs.Searching.{IsOpenIn}
use Rattle.cdcl.proofs.SearchLaws.{open_at}
use Rattle.cdcl.proofs.choosing.first_open.Goals as goal

pub returns-in-Some-clause-open : goal.returns-in-Some-clause-open
returns-in-Some-clause-open c =
    open_at c.args.clauses.now c.args.trail.now.steps c.loop-clause.clause-index c.clause-item.result c.in-Some.literal c.loop-clause-test.true c.clause-item.is
    (subst (λ xs. IsOpenIn c.args.trail.now.steps xs c.in-Some.literal) c.as_slice.ensures c.in-Some.ensures.open)
