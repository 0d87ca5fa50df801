use Rattle.certificate_lines.proofs.ClauseLaws.{all_written}
use Rattle.certificate_lines.proofs.clauses.push_clause.Goals as goal

pub returns : goal.returns
returns c = all_written _ _ _ _ _ c.loop-literal.invariant c.loop-literal-test.false c.in_ok-push-2.ensures.items
