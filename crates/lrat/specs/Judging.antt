-- What an answer says of where a proof stands.
use Rattle.std.specs.Prelude.{◌≡◌, Result, Ok, Err}
use Rattle.proof_semantics.specs.Proofs.{ProofState}
use Rattle.proof_semantics.specs.declared.faults.LratFault.{LratFault}
use Rattle.lrat.specs.declared.faults.LratEnd.{LratEnd}
use Rattle.lrat.specs.declared.faults.LratEnd.TheVariants.{Fault, Memory}

-- An answer of Ok is the judgement that leads to the new state, and a fault is the judgement. Want of memory says
-- nothing of it.
abbrev pub Judges : Result (Unit {0}) LratEnd → Result ProofState LratFault → ProofState → Type 0
Judges (Ok done) judgement new = judgement ≡ Ok new
Judges (Err (Fault fault)) judgement new = judgement ≡ Err fault
Judges (Err Memory) judgement new = Unit {0}
