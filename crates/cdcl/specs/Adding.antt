-- Clauses that are added one after another.
use Rattle.std.specs.Prelude.{◌≡◌, List, ◌++◌}
use Rattle.proof_semantics.specs.declared.literals.Lit.{Lit}

-- The later list is the earlier one, and then the first of the clauses.
pub record AddsFirst (clauses earlier later : List (List Lit)) : Type 0 where
  pub first : List (List Lit)
  pub rest : List (List Lit)
  pub parts : clauses ≡ first ++ rest
  pub behind : later ≡ earlier ++ first
