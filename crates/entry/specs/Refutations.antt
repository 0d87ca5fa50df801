-- The first fault of a refutation: of its uses, else of its proof.
use Rattle.std.specs.Prelude.{ℕ, List, Option, Some, None}
use Rattle.aig_semantics.specs.Circuits.{Circuit}
use Rattle.proof_semantics.specs.declared.faults.LratFault.{LratFault}
use Rattle.fair_semantics.specs.declared.entries.Use.{Use}
use Rattle.fair_semantics.specs.Entries.{Entry, used_entries}
use Rattle.cnf_unroll.specs.Obligations.{skeleton_clauses}
use Rattle.entry.specs.declared.uses.User.TheVariants.{Refutation}
use Rattle.entry.specs.declared.faults.RefutationFault.{RefutationFault}
use Rattle.entry.specs.declared.faults.RefutationFault.TheVariants.{BadUse, Proof}
use Rattle.entry.specs.Faults.{first_bad_use, proof_fault}

abbrev pub uses_then_proof : Option ℕ → Option (ℕ × LratFault) → Option RefutationFault
uses_then_proof (Some number) proof = Some (BadUse number)
uses_then_proof None (Some (line, fault)) = Some (Proof line fault)
uses_then_proof None None = None

abbrev pub first_refutation_fault : Circuit → List Entry → ℕ → List Use → List (List ℕ) → Option RefutationFault
first_refutation_fault c entries j uses proof =
    uses_then_proof (first_bad_use Refutation entries uses) (proof_fault (skeleton_clauses c j (used_entries entries uses)) proof)
