-- Laws of literals as numbers.
use Rattle.std.proofs.Common.{◌≡◌, ℕ, ◌+◌, ◌-◌, ◌*◌, ◌/◌, ◌%◌, true, false, not, eqb, ap, ap₂, sym, subst, ◌∙◌, inl, inr, arith}
use Rattle.std.proofs.lemmas.Bool.{cases_Bool, eqb-true, eqb-false, eq-eqb, ne_eqb, false_from_ne_true}
use Rattle.proof_semantics.specs.Clauses.{lit_eq, negation}
use Rattle.proof_semantics.proofs.LiteralLaws.{lit_eq-same, lit_eq-true}
use Rattle.packed_literals.specs.Packing.{literal, literal_of, code_of, code_of-literal_of}

pub even_is : (n : ℕ) → literal_of (2 * n) ≡ literal n true
even_is n =
    let half : 2 * n / 2 ≡ n = omega arith in
    let rest : (2 * n) % 2 ≡ 0 = omega arith in
    ap₂ literal half (eq-eqb ((2 * n) % 2) 0 rest)

pub odd_is : (n : ℕ) → literal_of (2 * n + 1) ≡ literal n false
odd_is n =
    let half : (2 * n + 1) / 2 ≡ n = omega arith in
    let rest : (2 * n + 1) % 2 ≡ 1 = omega arith in
    ap₂ literal half (ne_eqb ((2 * n + 1) % 2) 0 (λ e. omega (arith, e, rest)))

pub negated_even : (c : ℕ) → eqb (c % 2) 0 ≡ true → literal_of (c + 1) ≡ negation (literal_of c)
negated_even c is =
    let rest : c % 2 ≡ 0 = eqb-true (c % 2) 0 is in
    let half : (c + 1) / 2 ≡ c / 2 = omega (arith, rest) in
    let next : (c + 1) % 2 ≡ 1 = omega (arith, rest) in
    ap₂ literal half (ne_eqb ((c + 1) % 2) 0 (λ e. omega (arith, e, next)) ∙ sym (ap not is))

pub negated_odd : (c : ℕ) → eqb (c % 2) 0 ≡ false → literal_of (c - 1) ≡ negation (literal_of c)
negated_odd c is =
    let differs = eqb-false (c % 2) 0 is in
    let rest : c % 2 ≡ 1 = omega (arith, differs) in
    let half : (c - 1) / 2 ≡ c / 2 = omega (arith, rest) in
    let next : (c - 1) % 2 ≡ 0 = omega (arith, rest) in
    ap₂ literal half (eq-eqb ((c - 1) % 2) 0 next ∙ sym (ap not is))

pub same_code : (c d : ℕ) → eqb c d ≡ lit_eq (literal_of c) (literal_of d)
same_code c d =
    elim (cases_Bool (eqb c d)) [
      | inl same ↦ same ∙ sym (subst (λ n. lit_eq (literal_of c) (literal_of n) ≡ true) (eqb-true c d same) (lit_eq-same (literal_of c)))
      | inr differs ↦
          differs
          ∙ sym (false_from_ne_true (lit_eq (literal_of c) (literal_of d)) (λ e.
          eqb-false c d differs (sym (code_of-literal_of c) ∙ ap code_of (lit_eq-true (literal_of c) (literal_of d) e) ∙ code_of-literal_of d)))
    ]
