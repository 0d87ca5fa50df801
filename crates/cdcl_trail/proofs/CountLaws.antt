-- Literals over the first n numbers, no variable twice, are at most n.
use Rattle.std.proofs.Common.{◌≡◌, ℕ, zero, suc, ◌+◌, ◌≤◌, Bool, true, false, not, cond, eqb, List, [], ◌∷◌, length, refl, ap, sym, ◌∙◌, inl, inr, arith}
use Rattle.std.specs.List.{list_any}
use Rattle.std.proofs.lemmas.Bool.{cases_Bool, eqb-true, eqb-false, and_parts, and_from, or_parts, or_from, not-true, not_from_false, cond-true, cond-false, cond_both}
use Rattle.proof_semantics.specs.declared.literals.Lit.{Lit}
use Rattle.cdcl_trail.specs.Trails.{once}
use Rattle.cdcl_trail.specs.Renaming.{AreBelow}

-- the literals but those over a variable
abbrev pub without : ℕ → List Lit → List Lit
without n [] = []
without n (a ∷ lits) = cond (eqb a.var n) (without n lits) (a ∷ without n lits)

any_without : (f : Lit → Bool) (n : ℕ) (lits : List Lit) → list_any f lits ≡ false → list_any f (without n lits) ≡ false
any_without f n [] lacks = refl
any_without f n (a ∷ lits) lacks =
    let parts = or_parts (f a) (list_any f lits) lacks in
    cond_both (eqb a.var n) (without n lits) (a ∷ without n lits) (λ xs. list_any f xs ≡ false)
    (λ _. any_without f n lits parts.1)
    (λ _. or_from (f a) (list_any f (without n lits)) parts.0 (any_without f n lits parts.1))

once_without : (n : ℕ) (lits : List Lit) → once lits ≡ true → once (without n lits) ≡ true
once_without n [] all = refl
once_without n (a ∷ lits) all =
    let parts = and_parts (not (list_any (λ b. eqb b.var a.var) lits)) (once lits) all in
    cond_both (eqb a.var n) (without n lits) (a ∷ without n lits) (λ xs. once xs ≡ true)
    (λ _. once_without n lits parts.1)
    (λ _. and_from (not (list_any (λ b. eqb b.var a.var) (without n lits))) (once (without n lits))
    (not_from_false _ (any_without (λ b. eqb b.var a.var) n lits (not-true _ parts.0))) (once_without n lits parts.1))

below_without : (n : ℕ) (lits : List Lit) → AreBelow (suc n) lits → AreBelow n (without n lits)
below_without n [] all = tt
below_without n (a ∷ lits) all =
    cond_both (eqb a.var n) (without n lits) (a ∷ without n lits) (AreBelow n)
    (λ _. below_without n lits all.1)
    (λ differs. let apart = eqb-false a.var n differs in (omega (arith, all.0, apart), below_without n lits all.1))

same_without : (n : ℕ) (lits : List Lit) → list_any (λ b. eqb b.var n) lits ≡ false → without n lits ≡ lits
same_without n [] lacks = refl
same_without n (a ∷ lits) lacks =
    let parts = or_parts (eqb a.var n) (list_any (λ b. eqb b.var n) lits) lacks in
    cond-false (eqb a.var n) (without n lits) (a ∷ without n lits) parts.0 ∙ ap (λ xs. a ∷ xs) (same_without n lits parts.1)

length_without : (n : ℕ) (lits : List Lit) → once lits ≡ true → length lits ≤ length (without n lits) + 1
length_without n [] all = omega arith
length_without n (a ∷ lits) all =
    let parts = and_parts (not (list_any (λ b. eqb b.var a.var) lits)) (once lits) all in
    elim (cases_Bool (eqb a.var n)) [
      | inl same ↦
          let lacks : list_any (λ b. eqb b.var n) lits ≡ false =
          ap (λ v. list_any (λ b. eqb b.var v) lits) (sym (eqb-true a.var n same)) ∙ not-true _ parts.0 in
          let whole : without n (a ∷ lits) ≡ lits =
          cond-true (eqb a.var n) (without n lits) (a ∷ without n lits) same ∙ same_without n lits lacks in
          omega (arith, ap length whole)
      | inr differs ↦
          let whole : without n (a ∷ lits) ≡ a ∷ without n lits = cond-false (eqb a.var n) (without n lits) (a ∷ without n lits) differs in
          let later = length_without n lits parts.1 in
          omega (arith, ap length whole, later)
    ]

pub few : (n : ℕ) (lits : List Lit) → once lits ≡ true → AreBelow n lits → length lits ≤ n
few zero [] all below = omega arith
few zero (a ∷ lits) all below = absurd (omega (arith, below.0))
few (suc n) lits all below =
    let fewer = few n (without n lits) (once_without n lits all) (below_without n lits below) in
    omega (arith, length_without n lits all, fewer)
