use Rattle.std.proofs.Common.{◌∙◌, sym, ap, option_map}
use Rattle.certificate_lines.proofs.ClauseLaws.{clause_some, clause_none}
use Rattle.certificate_lines.proofs.clauses.read_clause.Goals as goal

pub returns-in-Some : goal.returns-in-Some
returns-in-Some c =
    let read = ap (option_map (λ v. v.items)) (sym c.in-Some.is) ∙ c.in_ok-numbers.ensures in
    c.before_zero.ensures ∙ sym (clause_some _ _ read)

pub returns-in-None : goal.returns-in-None
returns-in-None c =
    let read = ap (option_map (λ v. v.items)) (sym c.in-None.is) ∙ c.in_ok-numbers.ensures in
    sym (clause_none _ read)
