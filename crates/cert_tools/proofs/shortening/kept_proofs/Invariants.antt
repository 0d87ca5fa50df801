use Rattle.std.proofs.Common.{◌≡◌, ℕ, List, take}
use Rattle.std.specs.List.{list_any}
use Rattle.proof_semantics.specs.declared.literals.Lit.{Lit}
use Rattle.proof_semantics.specs.Proofs.{is_empty}
use Rattle.cert_tools.specs.TrimmedProofs.{AreTrimmedProofs}
use Rattle.cert_tools.specs.TrimmingProofs.{AreRefuted}
use Rattle.cert_tools.proofs.shortening.kept_proofs.Given as goal

abbrev pub invariant-loop-proof : goal.invariant-loop-proof
invariant-loop-proof l =
    (obligation : ℕ → List (List Lit)) → AreRefuted obligation 0 l.proofs → ((i : ℕ) → list_any is_empty (obligation i) ≡ l.given_empty)
    → AreTrimmedProofs obligation 0 (take l.proof-index l.proofs) l.kept
