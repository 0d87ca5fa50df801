use Rattle.proof_semantics.proofs.Soundness.{judge_all-sound}
use Rattle.proof_semantics.proofs.laws.accepted_lines_are_implied.Goals as goal

pub returns : goal.returns
returns c = judge_all-sound
