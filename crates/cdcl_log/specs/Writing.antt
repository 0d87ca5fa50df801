-- Scaffolding of inner functions. How a proof is written: the added clauses have the ids from 1 on, in the order of adding, and each learned clause that
-- is needed has an id above all those before it. The form of the lines is that of LRAT (Cruz-Filipe, Heule, Hunt,
-- Kaufmann, Schneider-Kamp, 2017).
use Rattle.std.specs.Prelude.{◌≡◌, ℕ, ◌+◌, ◌<◌, ◌≤◌, true, List, [], ◌∷◌, ◌++◌, map, Some, None, Ok, slice_get, nat_lt}
use Rattle.proof_semantics.specs.Lines.{Line, addition}
use Rattle.proof_semantics.specs.Proofs.{ProofState, start, clause_at, judge_all}
use Rattle.proof_semantics.specs.declared.literals.Lit.{Lit}
use Rattle.cnf.specs.Clauses.{clause_numbered}
use Rattle.cdcl_log.specs.LoggedClauses.{LoggedClauses, added_of}

-- the hint that names the clause with a number, by the id of each
abbrev pub hint_by : (ℕ → ℕ) → ℕ → Lit
hint_by id n = record { var = id n; positive = true }

-- the line that adds a clause, which follows along the clauses with these numbers
abbrev pub line_by : (ℕ → ℕ) → ℕ → List Lit → List ℕ → Line
line_by ids id clause hints = addition id clause (map (hint_by ids) hints)

-- fields, and a space behind each
abbrev pub spaced_fields : List (List ℕ) → List ℕ
spaced_fields [] = []
spaced_fields (field ∷ fields) = field ++ 32 ∷ spaced_fields fields

-- What was written holds: the lines are accepted, added clauses have ids, and each clause with an id is held under it. 0
-- is no id.
pub record IsPartialProof (logged : LoggedClauses) (ids : ℕ → ℕ) (lines : List (List ℕ)) (greatest : ℕ) : Type 0 where
  pub state : ProofState
  pub judged : judge_all (start (added_of logged)) lines ≡ Ok state
  pub last : state.last ≡ greatest
  pub within : (id : ℕ) (clause : List Lit) → clause_at state.held id ≡ Some clause → (0 < id) × (id ≤ greatest)
  pub given : (i : ℕ) → slice_get logged.sources i ≡ Some None → nat_lt 0 (ids (i + 1)) ≡ true
  pub finds : (n : ℕ) (clause : List Lit) → clause_numbered logged.clauses n ≡ Some clause → nat_lt 0 (ids n) ≡ true → clause_at state.held (ids n) ≡ Some clause

-- the lines are accepted and give the clause last
pub record Proves (given : List (List Lit)) (lines : List (List ℕ)) (clause : List Lit) : Type 0 where
  pub state : ProofState
  pub judged : judge_all (start given) lines ≡ Ok state
  pub gives : clause_at state.held state.last ≡ Some clause
  pub finishes : clause ≡ [] → state.finished ≡ true
