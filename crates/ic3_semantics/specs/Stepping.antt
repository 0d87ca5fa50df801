-- What the solver of a search tells: which steps lead from a frame into a cube (IC3: Bradley, 2011), inside the arena
-- of a start (FAIR: Bradley, Somenzi, Hassan, Zhang, 2011).
use Rattle.std.specs.Prelude.{◌≡◌, ℕ, ◌<◌, Bool, true, false, ◌||◌, nat_lt, List, [], ◌∷◌, ◌++◌, Option, Some, None}
use Rattle.std.specs.List.{All, list_all}
use Rattle.aig_semantics.specs.declared.traces.Position.{Position}
use Rattle.aig_semantics.specs.Runs.{successor, MeetsConstraints}
use Rattle.proof_semantics.specs.declared.literals.Lit.{Lit}
use Rattle.proof_semantics.specs.Clauses.{clause_value, cube_value, values_of, is_part}
use Rattle.ic3_semantics.specs.Arenas.{in_arena}
use Rattle.ic3_semantics.specs.Searching.{Question, MeetsLiteral}
use Rattle.ic3_semantics.specs.declared.lemmas.Lemma.{Lemma}
use Rattle.ic3_semantics.specs.declared.found.Found.{Found}
use Rattle.ic3_semantics.specs.declared.found.Found.TheVariants.{Step, Missing}

-- What contracts see of the solver of a search: its question, the cubes that a goal avoids, and the lemmas so far.
pub record Stepping : Type 0 where
  pub question : Question
  pub avoid : List (List Lit)
  pub lemmas : List Lemma

-- before the first lemma
abbrev pub no_lemmas : Question → List (List Lit) → Stepping
no_lemmas q avoid = record { question = q; avoid = avoid; lemmas = [] }

-- one lemma more
abbrev pub with_lemma : Stepping → ℕ → List Lit → Stepping
with_lemma st level clause = record st { lemmas = st.lemmas ++ record { level = level; clause = clause } ∷ [] }

-- The state meets the lemmas of this level and of those above it: it lies in the frame.
abbrev pub meets_from : List Lemma → ℕ → List Bool → Bool
meets_from lemmas level s =
    list_all (λ lemma. nat_lt lemma.level level || clause_value (values_of s) lemma.clause) lemmas

-- A position at which every constraint is true, and whose state and successor lie in the arena.
pub record IsArenaStep (q : Question) (p : Position) : Type 0 where
  pub possible : MeetsConstraints q.circuit p
  pub state : in_arena q.view q.start p.latches ≡ true
  pub next : in_arena q.view q.start (successor q.circuit p) ≡ true

-- A step of the arena from a state of the frame, which is not in the first cube, into the second.
pub record EntersFrom (st : Stepping) (level : ℕ) (from into : List Lit) (p : Position) : Type 0 where
  pub step : IsArenaStep st.question p
  pub frame : meets_from st.lemmas level p.latches ≡ true
  pub outside : cube_value (values_of p.latches) from ≡ false
  pub inside : cube_value (values_of (successor st.question.circuit p)) into ≡ true

-- a step from outside a cube into it
abbrev pub IsPredecessor : Stepping → ℕ → List Lit → Position → Type 0
IsPredecessor st level cube p = EntersFrom st level cube cube p

-- No step leads from outside the cube into the part of it; so none leads into the cube, and none from outside the part
-- into the part.
pub record IsMissing (st : Stepping) (level : ℕ) (cube part : List Lit) : Type 0 where
  pub among : is_part part cube ≡ true
  pub none : (p : Position) → EntersFrom st level cube part p → ⊥
  pub of_cube : (p : Position) → IsPredecessor st level cube p → ⊥
  pub of_part : (p : Position) → IsPredecessor st level part p → ⊥

-- what an answer says: a step, or a part that none leads into
abbrev pub IsFound : Stepping → ℕ → List Lit → Found → Type 0
IsFound st level cube (Step p) = IsPredecessor st level cube p
IsFound st level cube (Missing part) = IsMissing st level cube part

-- A position that meets a literal as goal, from a state of the frame.
pub record MeetsFrom (st : Stepping) (level literal : ℕ) (p : Position) : Type 0 where
  pub meets : MeetsLiteral st.question literal st.avoid p
  pub frame : meets_from st.lemmas level p.latches ≡ true

-- such a position, or there is none
abbrev pub IsGoalFound : Stepping → ℕ → ℕ → Option Position → Type 0
IsGoalFound st level literal (Some p) = MeetsFrom st level literal p
IsGoalFound st level literal None = (p : Position) → MeetsFrom st level literal p → ⊥

-- literals over the first n latches
abbrev pub IsOver : ℕ → List Lit → Type 0
IsOver n literals = All (λ l. l.var < n) literals
