use Rattle.certificate_lines.proofs.UseLaws.{found_uses, none_uses}
use Rattle.certificate_lines.proofs.uses.uses_of.Goals as goal

pub returns-clause-found : goal.returns-clause-found
returns-clause-found c = found_uses _ _ _ c.read_uses.ensures

pub returns-clause-none : goal.returns-clause-none
returns-clause-none c = none_uses _ _ _ c.read_uses.ensures
