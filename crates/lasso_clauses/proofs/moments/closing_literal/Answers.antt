use Rattle.std.proofs.Common.{◌≡◌, ap, arith}
use Rattle.lasso_clauses.proofs.Sizes.{sized_one}
use Rattle.lasso_clauses.proofs.moments.closing_literal.Goals as goal

pub returns-clause-sized : goal.returns-clause-sized
returns-clause-sized c =
    let number : c.plus.result.var ≡ c.closes.result = ap (λ l. l.var) c.plus.ensures in
    let small = c.closes.ensures.small in
    let is = c.closes.ensures.number in
    sized_one c.plus.result (omega arith) (omega arith)
