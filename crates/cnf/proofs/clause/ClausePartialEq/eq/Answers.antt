use Rattle.std.proofs.Common.{◌≡◌, sym, ◌∙◌, rules}
use Rattle.std.specs.Cmp.Lexicographic.{pointwise, pointwise_decides}
use Rattle.proof_semantics.specs.Clauses.{lit_eq}
use Rattle.cnf.specs.Comparing.{lit_eq_decides}
use Rattle.cnf.proofs.clause.ClausePartialEq.eq.Goals as goal

pub returns-clause-same : goal.returns-clause-same
returns-clause-same c =
    let decides = pointwise_decides lit_eq_decides c.args.self.now c.args.other.now in
    let answer : c.eq.result ≡ pointwise lit_eq c.args.self.now c.args.other.now = search rules in
    (λ h. decides.0 (sym answer ∙ h), λ h. answer ∙ decides.1 h)
