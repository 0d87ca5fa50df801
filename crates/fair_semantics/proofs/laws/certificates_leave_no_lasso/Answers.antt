use Rattle.fair_semantics.proofs.Certified.{certifies, uses_certify}
use Rattle.fair_semantics.proofs.laws.certificates_leave_no_lasso.Goals as goal

pub returns-clause-list : goal.returns-clause-list
returns-clause-list c = certifies

pub returns-clause-uses : goal.returns-clause-uses
returns-clause-uses c = uses_certify
