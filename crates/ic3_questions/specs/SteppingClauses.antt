-- Scaffolding of inner functions. The clauses of the solver of a search, and the numbers that guard them: from the next
-- free number of its block on, every other one is of a level, and those between are of questions.
use Rattle.std.specs.Prelude.{◌≡◌, ℕ, ◌+◌, ◌*◌, ◌<◌, ◌≤◌, ◌↔◌, Bool, true, false, List, [], ◌∷◌, ◌++◌, map}
use Rattle.std.specs.List.{AllByRecursion, filter}
use Rattle.proof_semantics.specs.declared.literals.Lit.{Lit}
use Rattle.proof_semantics.specs.Clauses.{negation, clauses_value, cube_value, has_literal}
use Rattle.fair_semantics.specs.declared.entries.Kind.{Kind}
use Rattle.fair_semantics.specs.declared.entries.Kind.TheVariants.{Reach, Wall}
use Rattle.fair_semantics.specs.declared.entries.Side.{Side}
use Rattle.fair_semantics.specs.declared.entries.Side.TheVariants.{Any, In, Out}
use Rattle.fair_semantics.specs.declared.entries.Use.{Use}
use Rattle.fair_semantics.specs.Entries.{Entry, Numbered, set_at}
use Rattle.cnf_unroll.specs.Numbers.{minus, state_place, literal_at_place, clause_at_place}
use Rattle.cnf_unroll.specs.Obligations.{shared_clauses, after_step}
use Rattle.ic3_semantics.specs.Arenas.{restricting}
use Rattle.ic3_semantics.specs.Searching.{Question}
use Rattle.ic3_semantics.specs.Stepping.{Stepping}
use Rattle.ic3_semantics.specs.declared.lemmas.Lemma.{Lemma}
use Rattle.ic3_semantics.specs.declared.questions.Start.{Start}
use Rattle.ic3_semantics.specs.declared.questions.Start.TheVariants.{Initial, State}

-- ---- the block under the entries that restrict the steps, on the start's sides

abbrev pub side_of : Bool → Side
side_of true = In
side_of false = Out

-- the side of the start that is named of an entry
abbrev pub start_side : Start → Kind → (List Bool → Bool) → Side
start_side Initial kind set = Any
start_side (State from) Reach set = Any
start_side (State from) Wall set = side_of (set from)

abbrev pub own_use : List Entry → Start → Numbered → Use
own_use view start e = record { entry = e.number; side = start_side start e.entry.kind (set_at view e.number) }

abbrev pub own_uses : List Entry → Start → List Use
own_uses view start = map (own_use view start) (restricting start view)

abbrev pub base_clauses : Question → List (List Lit)
base_clauses q = shared_clauses q.circuit (restricting q.start q.view) (own_uses q.view q.start) []

-- the first number that guards a clause
abbrev pub first_guard : Question → ℕ
first_guard q = (after_step q.circuit (restricting q.start q.view)).free

-- ---- guarded clauses

-- the guards of a level, and of a question; that of the goals is the question with the number 0
abbrev pub level_guard : ℕ → ℕ → ℕ
level_guard free level = free + 2 * level

abbrev pub question_guard : ℕ → ℕ → ℕ
question_guard free number = free + 2 * number + 1

-- the clause holds where the guard is true
abbrev pub guarded : ℕ → List Lit → List Lit
guarded g clause = minus g ∷ clause

-- the negated literals of a cube at the state
abbrev pub denied_at : List ℕ → List Lit → List Lit
denied_at place cube = map (λ l. negation (literal_at_place place l)) cube

abbrev pub lemma_clause : List ℕ → ℕ → Lemma → List Lit
lemma_clause place free lemma = guarded (level_guard free lemma.level) (clause_at_place place lemma.clause)

abbrev pub avoid_clause : List ℕ → ℕ → List Lit → List Lit
avoid_clause place free cube = guarded (question_guard free 0) (denied_at place cube)

-- what the solver holds beside the clauses of questions
abbrev pub held_clauses : Stepping → ℕ → List (List Lit)
held_clauses st free =
    base_clauses st.question
    ++ map (avoid_clause (state_place st.question.circuit 0) free) st.avoid
    ++ map (lemma_clause (state_place st.question.circuit 0) free) st.lemmas

-- The solver's clauses are these and, for each of so many questions, clauses that its guard switches off.
pub record Retires (added held : List (List Lit)) (free asked : ℕ) : Type 0 where
  pub fewer : (v : ℕ → Bool) → clauses_value v added ≡ true → clauses_value v held ≡ true
  pub more : (v : ℕ → Bool) → clauses_value v held ≡ true
      → ((t : ℕ) → 1 ≤ t → t ≤ asked → v (question_guard free t) ≡ false) → clauses_value v added ≡ true

-- ---- questions

-- each lemma has one of so many levels
abbrev pub AreBelow : ℕ → List Lemma → Type 0
AreBelow levels lemmas = AllByRecursion (λ lemma. lemma.level < levels) lemmas

-- the guards are true of the levels from one to another, and of the question
pub record IsOn (free level levels number : ℕ) (v : ℕ → Bool) : Type 0 where
  pub each : (k : ℕ) → level ≤ k → k < levels → v (level_guard free k) ≡ true
  pub question : v (question_guard free number) ≡ true

-- Assumptions that are true where those guards and these literals are.
pub record AreAssumed (free level levels number : ℕ) (literals assumptions : List Lit) : Type 0 where
  pub guards : List Lit
  pub all : assumptions ≡ guards ++ literals
  pub on : (v : ℕ → Bool) → (cube_value v guards ≡ true) ↔ IsOn free level levels number v

-- the literals of a cube whose literals at a place are among these
abbrev pub part_at : List ℕ → List Lit → List Lit → List Lit
part_at place core cube = filter (λ l. has_literal core (literal_at_place place l)) cube
