use Rattle.std.proofs.Common.{◌≡◌, ◌+◌, ℕ, List, take, get_or, sym, subst}
use Rattle.std.specs.List.{list_any}
use Rattle.proof_semantics.specs.declared.literals.Lit.{Lit}
use Rattle.proof_semantics.specs.Proofs.{is_empty, Refutes}
use Rattle.cert_tools.specs.TrimmedProofs.{IsTrimmedProof, AreTrimmedProofs}
use Rattle.cert_tools.proofs.TrimmingLaws.{refuted_at, proof_more}
use Rattle.cert_tools.proofs.shortening.kept_proofs.Goals as goal

pub kept_proof-requires : goal.kept_proof-requires
kept_proof-requires c =
    let i : ℕ = c.loop-proof.proof-index in
    let proof : List (List ℕ) = c.proof-item.result in
    let obligation : ℕ → List (List Lit) = c.requires.0 in (
      obligation (0 + i),
      subst (Refutes (obligation (0 + i))) (sym c.proof-item.is) (refuted_at obligation 0 c.args.proofs.now i proof c.requires.1 c.loop-proof-test.true),
      c.requires.2 (0 + i),
    )

pub loop-proof-preserved : goal.loop-proof-preserved
loop-proof-preserved c =
    let i : ℕ = c.loop-proof.proof-index in
    let proof : List (List ℕ) = c.proof-item.result in
    let more : List (List ℕ) = c.in_ok-kept_proof.field-0 in
    let one : (given : List (List Lit)) → Refutes given (get_or c.args.proofs.now i proof) → list_any is_empty given ≡ c.args.given_empty → IsTrimmedProof given (get_or c.args.proofs.now i proof) more =
    subst (λ (p : List (List ℕ)). (given : List (List Lit)) → Refutes given p → list_any is_empty given ≡ c.args.given_empty → IsTrimmedProof given p more) c.proof-item.is c.in_ok-kept_proof.ensures in
    λ obligation refuted each.
    subst (λ kept. AreTrimmedProofs obligation 0 (take (i + 1) c.args.proofs.now) kept) (sym c.in_ok-push.ensures.ok)
    (proof_more obligation c.args.proofs.now c.loop-proof.kept i proof more c.args.given_empty c.loop-proof-test.true (c.loop-proof.invariant obligation) one refuted each)
