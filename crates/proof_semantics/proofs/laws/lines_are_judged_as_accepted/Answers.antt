use Rattle.proof_semantics.proofs.AcceptanceLaws.{judges_accepted}
use Rattle.proof_semantics.proofs.laws.lines_are_judged_as_accepted.Goals as goal

pub returns : goal.returns
returns c = judges_accepted
