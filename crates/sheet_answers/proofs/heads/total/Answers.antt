use Rattle.std.proofs.Common.{◌≤◌, length, arith}
use Rattle.aig_semantics.specs.declared.limits.TheConstants.{MAX_NUMBER}
use Rattle.sheet_answers.proofs.heads.total.Goals as goal

pub returns-clause-limit : goal.returns-clause-limit
returns-clause-limit c =
    let most : length c.args.circuit.now.justice ≤ MAX_NUMBER = c.max-limits.ensures.limits.justice in
    omega (arith, most)
