use Rattle.proof_semantics.proofs.LineLaws.{reads_spelled}
use Rattle.proof_semantics.proofs.laws.lines_are_read_as_spelled.Goals as goal

pub returns : goal.returns
returns c = reads_spelled
