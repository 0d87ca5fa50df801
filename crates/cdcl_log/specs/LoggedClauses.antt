-- Scaffolding of inner functions. The clauses that a solver holds, in the order in which they came,
-- each with the hints that it was learned by.
use Rattle.std.specs.Prelude.{◌≡◌, ℕ, Bool, true, List, [], ◌∷◌, length, take, map, Option, Some, None, slice_get, slice_index_or}
use Rattle.proof_semantics.specs.Clauses.{negation, clauses_value}
use Rattle.proof_semantics.specs.Propagation.{hints_fault}
use Rattle.proof_semantics.specs.Lines.{AreSized}
use Rattle.proof_semantics.specs.declared.literals.Lit.{Lit}
use Rattle.cnf.specs.Clauses.{clause_numbered}

-- the clauses, and beside each the hints of its proof line; none where it was added
pub record LoggedClauses : Type 0 where
  pub clauses : List (List Lit)
  pub sources : List (Option (List ℕ))

abbrev pub with_added : Option (List ℕ) → List Lit → List (List Lit) → List (List Lit)
with_added None clause rest = clause ∷ rest
with_added (Some hints) clause rest = rest

abbrev pub with_learned : Option (List ℕ) → List Lit → List (List Lit) → List (List Lit)
with_learned None clause rest = rest
with_learned (Some hints) clause rest = clause ∷ rest

-- the clauses that have no hints
abbrev pub added_in : List (Option (List ℕ)) → List (List Lit) → List (List Lit)
added_in [] clauses = []
added_in (source ∷ sources) [] = []
added_in (source ∷ sources) (clause ∷ clauses) = with_added source clause (added_in sources clauses)

-- the clauses that have hints
abbrev pub learned_in : List (Option (List ℕ)) → List (List Lit) → List (List Lit)
learned_in [] clauses = []
learned_in (source ∷ sources) [] = []
learned_in (source ∷ sources) (clause ∷ clauses) = with_learned source clause (learned_in sources clauses)

abbrev pub added_of : LoggedClauses → List (List Lit)
added_of logged = added_in logged.sources logged.clauses

abbrev pub learned_of : LoggedClauses → List (List Lit)
learned_of logged = learned_in logged.sources logged.clauses

-- each clause with hints follows along them from those before it
abbrev pub AreExplained : List (List Lit) → List (Option (List ℕ)) → Type 0
AreExplained clauses sources =
    (i : ℕ) (hints : List ℕ) → slice_get sources i ≡ Some (Some hints)
    → hints_fault (clause_numbered (take i clauses)) (map negation (slice_index_or clauses i [])) hints ≡ None

-- What a solver keeps of its clauses.
pub record IsLog (logged : LoggedClauses) : Type 0 where
  pub beside : length logged.sources ≡ length logged.clauses
  pub explained : AreExplained logged.clauses logged.sources
  pub implied : (v : ℕ → Bool) → clauses_value v (added_of logged) ≡ true → clauses_value v logged.clauses ≡ true
  pub sized : (i : ℕ) → AreSized (slice_index_or logged.clauses i [])
