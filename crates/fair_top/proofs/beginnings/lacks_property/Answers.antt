use Rattle.std.proofs.Common.{rules, inl, inr}
use Rattle.fair_top.proofs.beginnings.lacks_property.Goals as goal

pub returns-then-request-clause-no : goal.returns-then-request-clause-no
returns-then-request-clause-no c = λ e. inl (search rules)

pub returns-clause-no : goal.returns-clause-no
returns-clause-no c = λ e. inr (search rules)
