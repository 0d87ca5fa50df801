-- Laws of the tests of literals.
use Rattle.std.proofs.Common.{◌≡◌, ℕ, suc, ◌<◌, ◌^◌, Bool, true, ◌&&◌, List, [], ◌∷◌, subst, sym, ◌∙◌, inl, inr}
use Rattle.std.specs.Prelude.{nat_lt, ◌↔◌}
use Rattle.std.specs.List.{list_all}
use Rattle.std.proofs.lemmas.Bool.{false≢true, and_parts, and_from, or_cases, leb-true, le-leb}
use Rattle.proof_semantics.specs.Lines.{IsSize, AreSized}
use Rattle.proof_semantics.specs.declared.literals.Lit.{Lit}
use Rattle.proof_semantics.proofs.LiteralLaws.{lit_eq-true}
use Rattle.cdcl_trail.proofs.PrefixLaws.{all_from}

size_from : (a : Lit) → (nat_lt 0 a.var && nat_lt a.var (2 ^ 63)) ≡ true → IsSize a.var
size_from a e = let parts = and_parts (nat_lt 0 a.var) (nat_lt a.var (2 ^ 63)) e in (leb-true 1 a.var parts.0, below a.var parts.1)
  where
    below : (n : ℕ) → nat_lt n (2 ^ 63) ≡ true → n < 2 ^ 63
    below n e = leb-true (suc n) (2 ^ 63) e

sized_from : (lits : List Lit) → list_all (λ (a : Lit). nat_lt 0 a.var && nat_lt a.var (2 ^ 63)) lits ≡ true → AreSized lits
sized_from [] all a has = absurd (false≢true has)
sized_from (b ∷ lits) all a has =
    let parts = and_parts _ _ all in
    elim (or_cases _ _ has) [
      | inl same ↦ subst (λ (c : Lit). IsSize c.var) (sym (lit_eq-true a b same)) (size_from b parts.0)
      | inr later ↦ sized_from lits parts.1 a later
    ]

pub sized_told : (lits : List Lit) (told : Bool) → told ≡ list_all (λ (a : Lit). nat_lt 0 a.var && nat_lt a.var (2 ^ 63)) lits → (told ≡ true) ↔ AreSized lits
sized_told lits told is = (
  λ e. sized_from lits (sym is ∙ e),
  λ sized. is ∙ all_from (λ a. nat_lt 0 a.var && nat_lt a.var (2 ^ 63)) lits
      (λ a has. let size = sized a has in and_from _ _ (le-leb 1 a.var size.0) (le-leb (suc a.var) (2 ^ 63) size.1)),
)
