-- A refutation has no bad use and no fault in its proof exactly where it is good.
use Rattle.std.proofs.Common.{◌≡◌, ℕ, List, None}
use Rattle.std.specs.Prelude.{◌↔◌}
use Rattle.aig_semantics.specs.Circuits.{Circuit}
use Rattle.proof_semantics.specs.declared.literals.Lit.{Lit}
use Rattle.fair_semantics.specs.declared.entries.Use.{Use}
use Rattle.fair_semantics.specs.Entries.{Entry, used_entries}
use Rattle.entry.specs.declared.uses.User.TheVariants as users
use Rattle.entry.specs.Faults.{first_bad_use, proof_fault}
use Rattle.entry.proofs.Closed.{closed-from_none, none-from_closed}
use Rattle.entry.proofs.Faultless.{refutes-from_none, none-from_refutes, faultless_is_good, unsigned, not-signed}
use Rattle.certificate.specs.declared.state.Refuted.TheVariants.{Skeletons, States}
use Rattle.certificate.specs.Refuted.{Refuted, state_clauses, refuted_clauses, IsStateRefutation, IsRefutation}

-- the refutation has no fault
abbrev IsFaultless : Circuit → Refuted → List Entry → ℕ → List Use → List (List ℕ) → Type 0
IsFaultless c refuted entries n uses proof =
    (first_bad_use users.Refutation entries uses ≡ None) × (proof_fault (refuted_clauses c refuted n (used_entries entries uses)) proof ≡ None)

state-good : (c : Circuit) (literal : Lit) (entries : List Entry) (n : ℕ) (uses : List Use) (proof : List (List ℕ)) → IsFaultless c (States literal) entries n uses proof
    → IsStateRefutation c literal entries uses proof
state-good c literal entries n uses proof h =
    let stand = closed-from_none users.Refutation entries uses h.0 in
    record {
      closed = stand.0;
      unsigned = λ k d inside. not-signed _ (stand.1 k d inside);
      refutes = refutes-from_none (state_clauses c literal (used_entries entries uses)) proof h.1;
    }

state-faultless : (c : Circuit) (literal : Lit) (entries : List Entry) (n : ℕ) (uses : List Use) (proof : List (List ℕ)) → IsStateRefutation c literal entries uses proof
    → IsFaultless c (States literal) entries n uses proof
state-faultless c literal entries n uses proof is = (
  none-from_closed users.Refutation entries uses is.closed (λ k d inside. unsigned _ (is.unsigned k d inside)),
  none-from_refutes (state_clauses c literal (used_entries entries uses)) proof is.refutes,
)

pub faultless_refutes : (c : Circuit) (refuted : Refuted) (entries : List Entry) (n : ℕ) (uses : List Use) (proof : List (List ℕ))
    → IsFaultless c refuted entries n uses proof ↔ IsRefutation c refuted entries n uses proof
faultless_refutes c Skeletons entries n uses proof = faultless_is_good c entries n uses proof
faultless_refutes c (States literal) entries n uses proof = (state-good c literal entries n uses proof, state-faultless c literal entries n uses proof)
