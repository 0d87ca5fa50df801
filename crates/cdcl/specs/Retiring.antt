-- How a question brings clauses of its own, and leaves them behind: each holds a literal of a variable that stands for
-- the question, and the literal's unit clause retires them. So is MiniSat used with activation literals (Eén,
-- Sörensson, 2003).
use Rattle.std.specs.Prelude.{◌≡◌, ℕ, Bool, true, not, ◌↔◌, List, if◌then◌else◌, ◌==◌}
use Rattle.std.specs.List.{filter, list_all}
use Rattle.proof_semantics.specs.Clauses.{negation, has_literal}
use Rattle.proof_semantics.specs.declared.literals.Lit.{Lit}
use Rattle.cdcl.specs.Solving.{IsModel, HasNoModel}

-- the clauses that don't hold the literal
abbrev pub without_literal : Lit → List (List Lit) → List (List Lit)
without_literal a clauses = filter (λ clause. not (has_literal clause a)) clauses

-- the assignment that makes the literal true, and is the given one elsewhere
abbrev pub with_true : Lit → (ℕ → Bool) → ℕ → Bool
with_true a v n = if n == a.var then a.positive else v n

-- The question has the same answer over both lists: what is a model of the first is one of the second, and what is one
-- of the second is one of the first once the literal is made true.
pub record SameAnswer (a : Lit) (all kept : List (List Lit)) (assumptions : List Lit) : Type 0 where
  pub fewer : (v : ℕ → Bool) → IsModel all assumptions v → IsModel kept assumptions v
  pub more : (v : ℕ → Bool) → IsModel kept assumptions v → IsModel all assumptions (with_true a v)
  pub refused : HasNoModel all assumptions ↔ HasNoModel kept assumptions

-- Where the negation of a literal stands in no clause, the clauses that hold the literal change no answer of a question
-- that doesn't assume its variable.
abbrev pub RetiredChangeNothing : Type 0
RetiredChangeNothing =
    (a : Lit) (clauses : List (List Lit)) (assumptions : List Lit)
    → list_all (λ clause. not (has_literal clause (negation a))) clauses ≡ true
    → list_all (λ b. not (b.var == a.var)) assumptions ≡ true
    → SameAnswer a clauses (without_literal a clauses) assumptions
