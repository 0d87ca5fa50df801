use Rattle.proof_semantics.proofs.Soundness.{refuted-unsatisfiable}
use Rattle.proof_semantics.proofs.laws.refuted_clauses_have_no_model.Goals as goal

pub returns : goal.returns
returns c = refuted-unsatisfiable
