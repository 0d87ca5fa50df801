-- The bits of a part's signature are among those of the whole's.
use Rattle.std.proofs.Common.{◌≡◌, ℕ, ◌+◌, ◌≤◌, length, drop, max, Bool, true, false, List, [], ◌∷◌, ◌||◌, ◌≢◌, nat_eq, bit_or, refl, sym, ap, subst, ◌∙◌, inl, inr, arith}
use Rattle.std.proofs.lemmas.List.{drop_all}
use Rattle.std.specs.Int.{bit_at}
use Rattle.std.specs.Int.Bits.{or_self, or_zero_l, or_zero_r}
use Rattle.std.proofs.lemmas.Bool.{false≢true, and_parts, cases_Bool, ne_eqb}
use Rattle.std.proofs.lemmas.Nat.{or_comm}
use Rattle.std.proofs.lemmas.Nat.Bits.{bit_at_or, same_from_bits}
use Rattle.proof_semantics.specs.declared.literals.Lit.{Lit}
use Rattle.proof_semantics.specs.Clauses.{lit_eq, has_literal, is_part}
use Rattle.proof_semantics.proofs.LiteralLaws.{lit_eq-true}
use Rattle.ic3_frames.specs.Signatures.{bit_of, signature_of}

max_three : (a b c : ℕ) → max (max a b) c ≡ max a (max b c)
max_three a b c = omega arith

pub or_three : (a b c : ℕ) → bit_or (bit_or a b) c ≡ bit_or a (bit_or b c)
or_three a b c =
    same_from_bits (bit_or (bit_or a b) c) (bit_or a (bit_or b c)) (λ i.
    bit_at_or (bit_or a b) c i ∙ ap (λ x. max x (bit_at c i)) (bit_at_or a b i)
    ∙ max_three (bit_at a i) (bit_at b i) (bit_at c i)
    ∙ ap (λ x. max (bit_at a i) x) (sym (bit_at_or b c i)) ∙ sym (bit_at_or a (bit_or b c) i))

bit_in : (whole : List Lit) (a : Lit) → has_literal whole a ≡ true → bit_or (bit_of a) (signature_of whole) ≡ signature_of whole
bit_in [] a there = absurd (false≢true there)
bit_in (b ∷ whole) a there =
    elim (cases_Bool (lit_eq a b)) [
      | inl t ↦
          let same : bit_of a ≡ bit_of b = ap bit_of (lit_eq-true a b t) in
          ap (λ m. bit_or m (bit_or (bit_of b) (signature_of whole))) same
          ∙ sym (or_three (bit_of b) (bit_of b) (signature_of whole)) ∙ ap (λ m. bit_or m (signature_of whole)) (or_self (bit_of b))
      | inr t ↦
          sym (or_three (bit_of a) (bit_of b) (signature_of whole)) ∙ ap (λ m. bit_or m (signature_of whole)) (or_comm (bit_of a) (bit_of b))
          ∙ or_three (bit_of b) (bit_of a) (signature_of whole)
          ∙ ap (bit_or (bit_of b)) (bit_in whole a (sym (ap (λ x. x || has_literal whole a) t) ∙ there))
    ]

pub signature_in : (part whole : List Lit) → is_part part whole ≡ true → bit_or (signature_of part) (signature_of whole) ≡ signature_of whole
signature_in [] whole h = or_zero_l (signature_of whole)
signature_in (a ∷ part) whole h =
    let parts = and_parts (has_literal whole a) (is_part part whole) h in
    or_three (bit_of a) (signature_of part) (signature_of whole) ∙ ap (bit_or (bit_of a)) (signature_in part whole parts.1) ∙ bit_in whole a parts.0

-- where a signature has a bit that another has not, its clause is no part of the other
pub no_part : (part whole : List Lit) (m n : ℕ) → m ≡ signature_of part → n ≡ signature_of whole → (bit_or m n ≢ n)
    → nat_eq (bit_or m n) n ≡ is_part part whole
no_part part whole m n e f apart =
    elim (cases_Bool (is_part part whole)) [
      | inl t ↦
          absurd (apart (ap (λ x. bit_or x n) e ∙ ap (bit_or (signature_of part)) f ∙ signature_in part whole t ∙ sym f))
      | inr t ↦ ne_eqb _ _ apart ∙ sym t
    ]

pub signature_step : (literals : List Lit) (k m n : ℕ) (a : Lit) → drop k literals ≡ a ∷ drop (k + 1) literals → n ≡ bit_of a
    → bit_or m (signature_of (drop k literals)) ≡ signature_of literals
    → bit_or (bit_or m n) (signature_of (drop (k + 1) literals)) ≡ signature_of literals
signature_step literals k m n a there is before =
    or_three m n (signature_of (drop (k + 1) literals)) ∙ ap (λ x. bit_or m (bit_or x (signature_of (drop (k + 1) literals)))) is
    ∙ ap (λ c. bit_or m (signature_of c)) (sym there) ∙ before

pub signature_end : (literals : List Lit) (k m : ℕ) → length literals ≤ k → bit_or m (signature_of (drop k literals)) ≡ signature_of literals
    → m ≡ signature_of literals
signature_end literals k m far before =
    sym (or_zero_r m) ∙ ap (λ c. bit_or m (signature_of c)) (sym (drop_all k literals far)) ∙ before
