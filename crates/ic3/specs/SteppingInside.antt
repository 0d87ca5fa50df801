-- Scaffolding of inner functions. What the solver of a search keeps.
use Rattle.std.specs.Prelude.{◌≡◌, ℕ, ◌+◌, ◌<◌, ◌≤◌, ◌⊎◌, Bool, true, false, List, [], ◌∷◌, ◌++◌, length, map, drop, Option, Some, None}
use Rattle.std.specs.List.{All, AllByRecursion, list_all}
use Rattle.aig_semantics.specs.declared.traces.Position.{Position}
use Rattle.aig_semantics.specs.Circuits.{Circuit, IsChecked}
use Rattle.aig_semantics.specs.Literals.{variable_of, is_negated, literal_in}
use Rattle.aig_semantics.specs.Runs.{valuation_at, literal_at, successor}
use Rattle.aig_semantics.specs.Valuations.{HasOneValuation}
use Rattle.proof_semantics.specs.declared.literals.Lit.{Lit}
use Rattle.proof_semantics.specs.Clauses.{clause_value, clauses_value, cube_value, values_of}
use Rattle.cdcl.specs.Solving.{IsModel, HasNoModel}
use Rattle.cdcl.specs.Asking.{IsCore, assigned}
use Rattle.cdcl.specs.declared.asking.Asked.{Asked}
use Rattle.cdcl.specs.declared.asking.Asked.TheVariants.{Sat, Unsat}
use Rattle.cnf_unroll.specs.Situations.{situation_in}
use Rattle.cnf_unroll.specs.Numbers.{state_place, successor_place, clause_at_place, literal_in_block}
use Rattle.cnf_unroll.specs.Blocks.{step_clauses}
use Rattle.cnf_unroll.specs.Laws.{AreOver}
use Rattle.entry.specs.Laws.{IsGoodList}
use Rattle.ic3_semantics.specs.Stepping.{Stepping, meets_from, IsOver}
use Rattle.ic3_questions.specs.ReadVariables.{is_read}
use Rattle.ic3_questions.specs.SteppingClauses.{base_clauses, first_guard, held_clauses, guarded, denied_at, level_guard, question_guard, lemma_clause, Retires, AreBelow, AreAssumed, part_at}
use Rattle.ic3_semantics.specs.declared.found.Found.{Found}
use Rattle.ic3_semantics.specs.declared.found.Found.TheVariants.{Step, Missing}
use Rattle.ic3_semantics.specs.declared.lemmas.Lemma.{Lemma}
use Rattle.ic3.specs.declared.stepping_questions.Questions.{Questions}

-- a state meets these lemmas from a level on exactly where it meets those
abbrev pub MeetAlike : List Lemma → List Lemma → Type 0
MeetAlike these those = (level : ℕ) (state : List Bool) → meets_from these level state ≡ meets_from those level state

-- other lemmas in the place of all
abbrev pub keeping : Stepping → List Lemma → Stepping
keeping st lemmas = record { question = st.question; avoid = st.avoid; lemmas = lemmas }

-- The numbers are those of this solver of a search, and so are the clauses, together with those of the base, of which the
-- solver has a part. Of the lemmas it has the clauses of those that are kept, which say what all say; these its clauses imply
-- without the base.
pub record IsHeldBy (st : Stepping) (s : Questions) : Type 0 where
  pub kept : List Lemma
  pub same : MeetAlike kept st.lemmas
  pub checked : IsChecked st.question.circuit
  pub law : HasOneValuation st.question.circuit
  pub good : IsGoodList st.question.circuit st.question.view
  pub here : s.here ≡ state_place st.question.circuit 0
  pub next : s.next ≡ successor_place st.question.circuit 0
  pub free : s.free ≡ first_guard st.question
  pub levels : AreBelow s.levels kept
  pub over : AllByRecursion (λ lemma. IsOver (length st.question.circuit.latches) lemma.clause) kept
  pub lemmas : AllByRecursion (λ lemma. IsOver (length st.question.circuit.latches) lemma.clause) st.lemmas
  pub avoid : AreOver (length st.question.circuit.latches) st.avoid
  pub retires : Retires (base_clauses st.question ++ s.solver.added) (held_clauses (keeping st kept) s.free) s.free s.asked
  pub lemmas_held : (v : ℕ → Bool) → clauses_value v s.solver.added ≡ true
      → clauses_value v (map (lemma_clause (state_place st.question.circuit 0) s.free) kept) ≡ true

-- These are all clauses of the base, and those of the solver.
pub record IsHeldWith (st : Stepping) (base : List (List Lit)) (s : Questions) : Type 0 where
  pub whole : base ≡ base_clauses st.question
  pub by : IsHeldBy st s

-- the numbers are as before
pub record KeepsNumbers (old new : Questions) : Type 0 where
  pub here : new.here ≡ old.here
  pub next : new.next ≡ old.next
  pub free : new.free ≡ old.free
  pub levels : new.levels ≡ old.levels

-- nothing that clauses mean has changed
pub record Rests (old new : Questions) : Type 0 where
  pub added : new.solver.added ≡ old.solver.added
  pub asked : new.asked ≡ old.asked

-- the clause of a question that asks for states outside the cube
abbrev pub question_clause : Questions → List Lit → List Lit
question_clause s cube = guarded (question_guard s.free (s.asked + 1)) (denied_at s.here cube)

-- one question more, with its clause
pub record Begins (cube : List Lit) (old new : Questions) : Type 0 where
  pub added : new.solver.added ≡ old.solver.added ++ question_clause old cube ∷ []
  pub asked : new.asked ≡ old.asked + 1

-- What was held beside clauses of questions, with other clauses in front, is held so still.
pub record Keeps (old new : Questions) : Type 0 where
  pub numbers : KeepsNumbers old new
  pub retires : (front held : List (List Lit)) → Retires (front ++ old.solver.added) held old.free old.asked
      → Retires (front ++ new.solver.added) held new.free new.asked

-- ---- clauses of the base that come

-- Clauses came that hold where those of the base do.
pub record Grows (base old new : List (List Lit)) : Type 0 where
  pub fewer : (v : ℕ → Bool) → clauses_value v new ≡ true → clauses_value v old ≡ true
  pub more : (v : ℕ → Bool) → clauses_value v base ≡ true → clauses_value v old ≡ true → clauses_value v new ≡ true

-- the clauses hold only where those of the base do
abbrev pub IsWhole : List (List Lit) → List (List Lit) → Type 0
IsWhole base added = (v : ℕ → Bool) → clauses_value v added ≡ true → clauses_value v base ≡ true

-- ---- questions

-- A model of the question for a step from this level, outside the cube, into it.
pub record ModelInto (s : Questions) (level : ℕ) (cube : List Lit) (v : ℕ → Bool) : Type 0 where
  pub assumptions : List Lit
  pub assumed : AreAssumed s.free level s.levels (s.asked + 1) (clause_at_place s.next cube) assumptions
  pub model : IsModel (s.solver.added ++ question_clause s cube ∷ []) assumptions v

-- A core of it.
pub record CoreInto (s : Questions) (level : ℕ) (cube part : List Lit) : Type 0 where
  pub assumptions : List Lit
  pub assumed : AreAssumed s.free level s.levels (s.asked + 1) (clause_at_place s.next cube) assumptions
  pub core : IsCore (s.solver.added ++ question_clause s cube ∷ []) assumptions part

-- what the solver answers of it, beside the values that it tells
abbrev pub AnswersInto : Questions → ℕ → List Lit → List Lit → Asked → Type 0
AnswersInto s level cube values Sat = ModelInto s level cube (assigned values)
AnswersInto s level cube values (Unsat core) = CoreInto s level cube core.items

-- What it answers, whether the clause of the question came or not: a core of the question, or a model, which is one of the
-- question where its state is outside the cube.
abbrev pub AnswersFrom : Questions → ℕ → List Lit → List Lit → Asked → Type 0
AnswersFrom s level cube values Sat =
    clause_value (assigned values) (denied_at s.here cube) ≡ true → ModelInto s level cube (assigned values)
AnswersFrom s level cube values (Unsat core) = CoreInto s level cube core.items

-- what is told of it: a position that was read off a model, or a part of the cube by a core
abbrev pub TellsInto : Questions → Circuit → ℕ → List Lit → Found → Type 0
TellsInto s c level cube (Step p) =
    (v : ℕ → Bool) × ModelInto s level cube v × (p ≡ (situation_in c 0 v).position)
TellsInto s c level cube (Missing part) =
    (core : List Lit) × CoreInto s level cube core × (part ≡ part_at s.next core cube)

-- A model of the question for a position from this level at which the literals are true.
pub record ModelGoal (s : Questions) (level : ℕ) (literals : List Lit) (v : ℕ → Bool) : Type 0 where
  pub assumptions : List Lit
  pub assumed : AreAssumed s.free level s.levels 0 literals assumptions
  pub model : IsModel s.solver.added assumptions v

-- It has none.
pub record NoModelGoal (s : Questions) (level : ℕ) (literals : List Lit) : Type 0 where
  pub assumptions : List Lit
  pub assumed : AreAssumed s.free level s.levels 0 literals assumptions
  pub none : HasNoModel s.solver.added assumptions

-- what the solver answers of it, beside the values that it tells
abbrev pub AnswersGoal : Questions → ℕ → List Lit → List Lit → Asked → Type 0
AnswersGoal s level literals values Sat = ModelGoal s level literals (assigned values)
AnswersGoal s level literals values (Unsat core) = NoModelGoal s level literals

-- what is told of it
abbrev pub TellsGoal : Questions → Circuit → ℕ → List Lit → Option Position → Type 0
TellsGoal s c level literals (Some p) =
    (v : ℕ → Bool) × ModelGoal s level literals v × (p ≡ (situation_in c 0 v).position)
TellsGoal s c level literals None = NoModelGoal s level literals

-- what is told of a position at which an AIGER literal is met, by where its variable is defined
abbrev pub TellsLiteral : Questions → Circuit → ℕ → ℕ → Option Position → Type 0
TellsLiteral s c level literal found =
    ((is_read c (variable_of literal) ≡ true) × TellsGoal s c level (literal_in_block 0 literal ∷ []) found)
    ⊎ (((is_read c (variable_of literal) ≡ false) × ((is_negated literal ≡ true) × TellsGoal s c level [] found))
    ⊎ ((is_read c (variable_of literal) ≡ false) × ((is_negated literal ≡ false) × (found ≡ None))))

-- ---- what is tried

-- false, and then these values, and others
abbrev pub Completes : List Bool → List Bool → Type 0
Completes values out = (rest : List Bool) × (out ≡ false ∷ values ++ rest)

-- Where the variables and the latches' next values are these, the constraints are true; and an assignment that has them makes
-- the clauses behind those of the block true.
pub record IsTold (base : List (List Lit)) (c : Circuit) (values after : List Bool) : Type 0 where
  pub out : List Bool
  pub completes : Completes values out
  pub next : map (values_of out) (successor_place c 0) ≡ after
  pub constraints : list_all (literal_in values) c.constraints ≡ true
  pub entries : clauses_value (values_of out) (drop (length (step_clauses c)) base) ≡ true

-- The position is not in the cube, which its successor is in; constraints and the clauses of entries are tried.
pub record TriedInto (base : List (List Lit)) (c : Circuit) (cube : List Lit) (p : Position) : Type 0 where
  pub told : IsTold base c (valuation_at c p) (successor c p)
  pub outside : cube_value (values_of p.latches) cube ≡ false
  pub inside : cube_value (values_of (successor c p)) cube ≡ true

-- what is told of a question for a step, where it was told by a trial: a step whose position is that of a model
abbrev pub TellsTried : Questions → List (List Lit) → Circuit → ℕ → List Lit → Option Found → Type 0
TellsTried s base c level cube None = Unit {0}
TellsTried s base c level cube (Some (Step p)) =
    (v : ℕ → Bool) × ModelInto s level cube v × (p ≡ (situation_in c 0 v).position) × TriedInto base c cube p
TellsTried s base c level cube (Some (Missing part)) =
    (core : List Lit) × CoreInto s level cube core × (part ≡ part_at s.next core cube)

-- The literal is true at the position, whose state is in none of the cubes; the rest as above.
pub record TriedGoal (base : List (List Lit)) (c : Circuit) (avoid : List (List Lit)) (literal : ℕ) (p : Position) : Type 0 where
  pub told : IsTold base c (valuation_at c p) (successor c p)
  pub met : literal_at c p literal ≡ true
  pub avoids : All (λ cube. cube_value (values_of p.latches) cube ≡ false) avoid

-- the same of a question for a goal
abbrev pub TellsTriedGoal : Questions → List (List Lit) → Circuit → List (List Lit) → ℕ → ℕ → Option (Option Position) → Type 0
TellsTriedGoal s base c avoid level literal None = Unit {0}
TellsTriedGoal s base c avoid level literal (Some (Some p)) =
    (v : ℕ → Bool) × ModelGoal s level (literal_in_block 0 literal ∷ []) v × (p ≡ (situation_in c 0 v).position)
    × TriedGoal base c avoid literal p
TellsTriedGoal s base c avoid level literal (Some None) = NoModelGoal s level (literal_in_block 0 literal ∷ [])

-- ---- lemmas

-- one lemma more
pub record Holds (level : ℕ) (clause : List Lit) (old new : Questions) : Type 0 where
  pub here : new.here ≡ old.here
  pub next : new.next ≡ old.next
  pub free : new.free ≡ old.free
  pub asked : new.asked ≡ old.asked
  pub added : new.solver.added
      ≡ old.solver.added ++ guarded (level_guard old.free level) (clause_at_place old.here clause) ∷ []
  pub levels : old.levels ≤ new.levels
  pub below : level < new.levels

-- The lemma came, with its clause, or nothing changed.
abbrev pub MayHold : ℕ → List Lit → List Lemma → List Lemma → Questions → Questions → Type 0
MayHold level clause before after old new =
    ((after ≡ before ++ record { level = level; clause = clause } ∷ []) × Holds level clause old new)
    ⊎ ((after ≡ before) × (new ≡ old))
