-- What a solver answers to a question without a proof.
use Rattle.std.specs.Prelude.{◌≡◌, ℕ, Bool, true, false, List, [], ◌∷◌, if◌then◌else◌, ◌==◌}
use Rattle.proof_semantics.specs.Clauses.{is_part}
use Rattle.proof_semantics.specs.declared.literals.Lit.{Lit}
use Rattle.cdcl.specs.Solving.{IsModel, HasNoModel}
use Rattle.cdcl.specs.declared.asking.Asked.{Asked}
use Rattle.cdcl.specs.declared.asking.Asked.TheVariants.{Sat, Unsat}

-- The assignment that literals stand for: a variable has the value that makes the first literal over it true, and is
-- false where there is none.
abbrev pub assigned : List Lit → ℕ → Bool
assigned [] n = false
assigned (a ∷ lits) n = if a.var == n then a.positive else assigned lits n

-- The core is a part of the assumptions, and no assignment makes the added clauses and the core true; so none makes
-- them and the assumptions true.
pub record IsCore (added : List (List Lit)) (assumptions core : List Lit) : Type 0 where
  pub among : is_part core assumptions ≡ true
  pub refused : HasNoModel added core
  pub no_model : HasNoModel added assumptions

-- what an answer says, beside the values that the solver tells
abbrev pub IsAsked : List (List Lit) → List Lit → List Lit → Asked → Type 0
IsAsked added assumptions values Sat = IsModel added assumptions (assigned values)
IsAsked added assumptions values (Unsat core) = IsCore added assumptions core.items
