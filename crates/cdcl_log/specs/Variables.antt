-- Which variables literals and clauses are over.
use Rattle.std.specs.Prelude.{◌≡◌, ℕ, Bool, true, List, nat_eq}
use Rattle.std.specs.List.{list_any, list_all}
use Rattle.proof_semantics.specs.declared.literals.Lit.{Lit}

-- the variables of the literals are among these
abbrev pub is_over : List ℕ → List Lit → Bool
is_over vars lits = list_all (λ a. list_any (nat_eq a.var) vars) lits

abbrev pub are_over : List ℕ → List (List Lit) → Bool
are_over vars clauses = list_all (is_over vars) clauses

-- each variable that the earlier list has, the later one has too
abbrev pub HasAll : List ℕ → List ℕ → Type 0
HasAll earlier later = (v : ℕ) → list_any (nat_eq v) earlier ≡ true → list_any (nat_eq v) later ≡ true
