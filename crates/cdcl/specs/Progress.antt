-- Scaffolding of inner functions. How far a search has come from where it began.
use Rattle.std.specs.Prelude.{◌≡◌, ℕ, ◌+◌, ◌-◌, ◌≤◌, true, false, List, [], ◌∷◌, ◌++◌, length}
use Rattle.edge.specs.Units.{Spendings}
use Rattle.proof_semantics.specs.Clauses.{is_subsumed, has_opposites}
use Rattle.proof_semantics.specs.declared.literals.Lit.{Lit}
use Rattle.cdcl_log.specs.LoggedClauses.{LoggedClauses, IsLog, added_of, learned_of}
use Rattle.cdcl.specs.Room.{clause_room}
use Rattle.cdcl_trail.specs.Watched.{TrailState}
use Rattle.cdcl.specs.Searching.{is_over, are_over, IsHeld}
use Rattle.cdcl.specs.Solving.{Learns, with_conflicts}

-- how many clauses were learned between the two
abbrev pub growth : LoggedClauses → LoggedClauses → ℕ
growth start now = length (learned_of now) - length (learned_of start)

-- The clauses are over these variables, and those that were learned and those that can still be learned over them are no
-- more than at first.
pub record LearnsFewer (vars : List ℕ) (start now : LoggedClauses) : Type 0 where
  pub over : are_over vars now.clauses ≡ true
  pub less : growth start now + clause_room vars now.clauses ≤ clause_room vars start.clauses

pub record IsSearched (assumptions : List Lit) (start now : LoggedClauses) (earlier later : Spendings) : Type 0 where
  pub added : added_of now ≡ added_of start
  pub learned : Learns (added_of start) (learned_of start) (learned_of now)
  pub counted : later ≡ with_conflicts earlier (growth start now)
  pub less : (vars : List ℕ) → are_over vars start.clauses ≡ true → is_over vars assumptions ≡ true → LearnsFewer vars start now

-- None of the clauses has opposite literals, and none contains one that was before it.
abbrev pub AreIrredundant : List (List Lit) → List (List Lit) → Type 0
AreIrredundant before [] = Unit {0}
AreIrredundant before (clause ∷ more) =
    (has_opposites clause ≡ false) × (is_subsumed before clause ≡ false) × AreIrredundant (before ++ clause ∷ []) more

-- What a solver keeps.
pub record IsSolverLog (logged : LoggedClauses) : Type 0 where
  pub log : IsLog logged
  pub apart : AreIrredundant [] (learned_of logged)

-- with its trail
pub record IsStanding (logged : LoggedClauses) (t : TrailState) : Type 0 where
  pub kept : IsSolverLog logged
  pub trail : IsHeld logged.clauses t
