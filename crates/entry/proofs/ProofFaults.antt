-- The first fault of proofs, by a proof at a time.
use Rattle.std.proofs.Common.{◌≡◌, ℕ, zero, suc, ◌+◌, ◌<◌, List, [], ◌∷◌, length, get_or, drop, refl, sym, subst, ◌∙◌, arith, Some, None, Option}
use Rattle.proof_semantics.specs.declared.literals.Lit.{Lit}
use Rattle.proof_semantics.specs.declared.faults.LratFault.{LratFault}
use Rattle.entry.specs.declared.faults.EntryFault.{EntryFault}
use Rattle.entry.specs.Faults.{proof_fault, clause_fault, proofs_fault}

unrolled : (ob : ℕ → List (List Lit)) (i n : ℕ) (proofs : List (List (List ℕ))) (d : List (List ℕ)) → i < length proofs
    → proofs_fault ob n (drop i proofs) ≡ clause_fault n (proof_fault (ob n) (get_or proofs i d)) (proofs_fault ob (n + 1) (drop (suc i) proofs))
unrolled ob i n [] d below = absurd (omega arith)
unrolled ob zero n (proof ∷ proofs) d below = refl
unrolled ob (suc i) n (proof ∷ proofs) d below = unrolled ob i n proofs d (omega arith)

some-stays : (i : ℕ) (r : Option (ℕ × LratFault)) (rest : Option EntryFault) (fault : EntryFault) → clause_fault i r None ≡ Some fault → clause_fault i r rest ≡ Some fault
some-stays i None rest fault h = absurd (cc)
some-stays i (Some found) rest fault h = h

pub step_some : (ob : ℕ → List (List Lit)) (i : ℕ) (proofs : List (List (List ℕ))) (d : List (List ℕ)) (given : List (List Lit)) (whole : Option EntryFault) (fault : EntryFault)
    → i < length proofs → given ≡ ob i → Some fault ≡ clause_fault i (proof_fault given (get_or proofs i d)) None
    → proofs_fault ob i (drop i proofs) ≡ whole → Some fault ≡ whole
step_some ob i proofs d given whole fault below same found h =
    let here : clause_fault i (proof_fault (ob i) (get_or proofs i d)) None ≡ Some fault =
    subst (λ clauses. clause_fault i (proof_fault clauses (get_or proofs i d)) None ≡ Some fault) same (sym found)
    in
    sym (some-stays i (proof_fault (ob i) (get_or proofs i d)) (proofs_fault ob (i + 1) (drop (suc i) proofs)) fault here) ∙ sym (unrolled ob i i proofs d below) ∙ h
