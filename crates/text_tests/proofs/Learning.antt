-- A conflict that may be counted: the clause 2 is learned from the clauses -1 and 1 2.
use Rattle.std.specs.Prelude.{List}
use Rattle.std.proofs.Common.{◌≡◌, refl, ℕ, Bool, true, false, [], ◌∷◌}
use Rattle.std.specs.Prelude.{if◌then◌else◌, ◌==◌}
use Rattle.edge.specs.Units.{SpentConflict}
use Rattle.proof_semantics.specs.Clauses.{clause_value, clauses_value}
use Rattle.proof_semantics.specs.declared.literals.Lit.{Lit}

abbrev p : ℕ → Lit
p n = record { var = n; positive = true }

abbrev m : ℕ → Lit
m n = record { var = n; positive = false }

abbrev held : List (List Lit)
held = (m 1 ∷ []) ∷ (p 1 ∷ p 2 ∷ []) ∷ []

abbrev two_values : Bool → Bool → ℕ → Bool
two_values x y n = if n == 1 then x else y

follows : (x y : Bool) → clauses_value (two_values x y) held ≡ true → clause_value (two_values x y) (p 2 ∷ []) ≡ true
follows true true h = refl
follows false true h = refl
follows true false h = h
follows false false h = h

pub learned_from_both : SpentConflict held (p 2 ∷ [])
learned_from_both = record { implied = λ v h. follows (v 1) (v 2) h; no_tautology = refl; not_subsumed = refl }
