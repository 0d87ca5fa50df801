-- Scaffolding of inner functions. Comparisons of clauses: two are equal where they have the same literals in the same order.
use Rattle.std.specs.Prelude.{◌≡◌, true, List, ◌++◌}
use Rattle.std.specs.Bool.{Decides}
use Rattle.std.specs.Cmp.{IsPartialEquivalence, IsEquivalence, partial_equiv_from_equiv, decided}
use Rattle.std.specs.Cmp.Lexicographic.{pointwise, lists_per, lists_equiv}
use Rattle.std.specs.Hash as fed
use Rattle.proof_semantics.specs.Clauses.{lit_eq}
use Rattle.proof_semantics.specs.declared.literals.Lit.{Lit}
use Rattle.proof_semantics.proofs.LiteralLaws.{lit_eq-true, lit_eq-same}
use Rattle.std.proofs.Common.{subst}

pub lit_eq_decides : (a b : Lit) → Decides (lit_eq a b) (a ≡ b)
lit_eq_decides a b = (lit_eq-true a b, λ e. subst (λ c. lit_eq a c ≡ true) e (lit_eq-same a))

lit_equiv : IsEquivalence lit_eq
lit_equiv = decided lit_eq lit_eq_decides

pub literals_per : IsPartialEquivalence (pointwise lit_eq)
literals_per = lists_per (partial_equiv_from_equiv lit_equiv)

pub literals_equiv : IsEquivalence (pointwise lit_eq)
literals_equiv = lists_equiv lit_equiv

-- what a hasher is fed for a literal
abbrev pub literal_writes : Lit → fed.HashWrites
literal_writes a = fed.u64 a.var ++ fed.bool a.positive

pub literals_alike : (x y : List Lit) → pointwise lit_eq x y ≡ true → fed.slice literal_writes x ≡ fed.slice literal_writes y
literals_alike = (fed.items_Alike (fed.same_Alike literal_writes lit_eq_decides)).fed
