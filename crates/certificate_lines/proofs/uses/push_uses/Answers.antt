use Rattle.certificate_lines.proofs.UseLaws.{all_written}
use Rattle.certificate_lines.proofs.uses.push_uses.Goals as goal

pub returns : goal.returns
returns c = all_written _ _ _ _ _ _ _ c.in_ok-push_use.ensures c.in-Some.ensures.cases.0 c.loop-u.invariant c.loop-u-test.false
