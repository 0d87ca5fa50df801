-- Lists of clauses, as a contract sees them.
use Rattle.std.specs.Prelude.{ℕ, ◌+◌, ◌-◌, ◌≤◌, List, length, Option, None, slice_get, if◌then◌else◌, ◌==◌}
use Rattle.proof_semantics.specs.declared.literals.Lit.{Lit}

-- the clauses, the first of which has the number 1, and for how many clauses there is room
pub record Clauses : Type 0 where
  pub clauses : List (List Lit)
  pub room : ℕ

-- The clause with a number. The first has the number 1.
abbrev pub clause_numbered : List (List Lit) → ℕ → Option (List Lit)
clause_numbered clauses number = if number == 0 then None else slice_get clauses (number - 1)

-- so many more clauses fit without more memory
abbrev pub HasRoomFor : Clauses → ℕ → Type 0
HasRoomFor db more = length db.clauses + more ≤ db.room
