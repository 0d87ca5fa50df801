-- Cubes of obligations (scaffolding): what all their states have in common with the state that was found, by the same
-- inputs (IC3: Bradley, 2011; lifted by ternary simulation: Eén, Mishchenko, Brayton, 2011).
use Rattle.std.specs.Prelude.{◌≡◌, ℕ, ◌+◌, ◌-◌, ◌%◌, ◌==◌, Bool, true, false, List, map, length, slice_index_or, IsTrue, if◌then◌else◌}
use Rattle.std.specs.List.{All}
use Rattle.aig_semantics.specs.declared.parts.Latch.{Latch}
use Rattle.aig_semantics.specs.declared.traces.Position.{Position}
use Rattle.aig_semantics.specs.Circuits.{Circuit}
use Rattle.aig_semantics.specs.Runs.{position_of, literal_at, successor, MeetsConstraints}
use Rattle.proof_semantics.specs.declared.literals.Lit.{Lit}
use Rattle.proof_semantics.specs.Clauses.{cube_value, values_of, is_part}
use Rattle.cnf_unroll.specs.Laws.{AreOver}
use Rattle.fair_semantics.specs.States.{meets_clauses}
use Rattle.fair_semantics.specs.Entries.{Entry}
use Rattle.ic3_semantics.specs.declared.questions.Start.{Start}
use Rattle.ic3_semantics.specs.declared.questions.Start.TheVariants.{Initial, State}
use Rattle.ic3_semantics.specs.Arenas.{in_arena}
use Rattle.ic3_semantics.specs.Stepping.{IsOver}
use Rattle.ic3_generalise.specs.Cubes.{value_literals, misses_starts}

-- the state has a value for each latch, and makes the cube true
pub record IsIn (c : Circuit) (cube : List Lit) (s : List Bool) : Type 0 where
  pub size : length s ≡ length c.latches
  pub holds : cube_value (values_of s) cube ≡ true

-- the other literal of the same variable
abbrev pub opposite : ℕ → ℕ
opposite literal = if (literal % 2) == 1 then literal - 1 else literal + 1

-- the literal of the next value of latch v
abbrev pub next_at : List Latch → ℕ → ℕ
next_at latches v = slice_index_or (map (λ latch. latch.next) latches) v 0

-- the literal that is true at a position where the literal of a latch is true in its successor
abbrev pub next_literal : List Latch → Lit → ℕ
next_literal latches l = if l.positive then next_at latches l.var else opposite (next_at latches l.var)

-- the literals are true at the position
abbrev pub AreTrue : Circuit → Position → List ℕ → Type 0
AreTrue c p literals = All (λ literal. IsTrue (literal_at c p literal)) literals

-- A cube that holds the state of a position, and from whose states its inputs lead into another cube, by a step at which
-- constraints and literals are true.
pub record IsLifted (c : Circuit) (p : Position) (into : List Lit) (literals : List ℕ) (cube : List Lit) : Type 0 where
  pub part : is_part cube (value_literals 0 p.latches) ≡ true
  pub possible : (s : List Bool) → IsIn c cube s → MeetsConstraints c (position_of s p.inputs)
  pub holds : (s : List Bool) → IsIn c cube s → AreTrue c (position_of s p.inputs) literals
  pub enters : (s : List Bool) → IsIn c cube s → cube_value (values_of (successor c (position_of s p.inputs))) into ≡ true

-- where the first state breaks the clauses of an entry, the second does too
abbrev pub BreaksToo : List Entry → List Bool → List Bool → Type 0
BreaksToo view end t = All (λ e. meets_clauses e.clauses end ≡ false → meets_clauses e.clauses t ≡ false) view

-- Literals were put in that hold in the state, and make one of the clauses false where the state does.
pub record BreaksAs (clauses : List (List Lit)) (s : List Bool) (old new : List Lit) : Type 0 where
  pub over : (n : ℕ) → AreOver n clauses → IsOver n old → IsOver n new
  pub inside : cube_value (values_of s) old ≡ true → cube_value (values_of s) new ≡ true
  pub holds : (t : List Bool) → cube_value (values_of t) new ≡ true → cube_value (values_of t) old ≡ true
  pub breaks : (t : List Bool) → cube_value (values_of t) new ≡ true → meets_clauses clauses s ≡ false
      → meets_clauses clauses t ≡ false

-- A cube that holds the state, and whose states break the clauses of each entry which it breaks.
pub record IsBreaking (view : List Entry) (s : List Bool) (cube : List Lit) : Type 0 where
  pub over : (n : ℕ) → All (λ e. AreOver n e.clauses) view → IsOver n cube
  pub inside : cube_value (values_of s) cube ≡ true
  pub breaks : (t : List Bool) → cube_value (values_of t) cube ≡ true → BreaksToo view s t

-- from a state, a path that may end in the first state may end in the second
abbrev pub EndsAs : Start → List Entry → List Bool → List Bool → Type 0
EndsAs Initial view end t = Unit {0}
EndsAs (State from) view end t = BreaksToo view end t

-- A cube that holds the successor of a position, and in each state of which a path may end in its place.
pub record EndsIn (c : Circuit) (view : List Entry) (start : Start) (p : Position) (cube : List Lit) : Type 0 where
  pub over : IsOver (length c.latches) cube
  pub inside : cube_value (values_of (successor c p)) cube ≡ true
  pub ends : (t : List Bool) → IsIn c cube t → EndsAs start view (successor c p) t

-- the cube misses each of these by a literal
abbrev pub MissesEach : List (List Lit) → List Lit → Type 0
MissesEach avoid cube = All (λ a. misses_starts a cube ≡ true) avoid

-- A part of the whole that holds a part, and misses the cubes that are to be avoided.
pub record IsApart (avoid : List (List Lit)) (whole part longer : List Lit) : Type 0 where
  pub among : is_part longer whole ≡ true
  pub holds : is_part part longer ≡ true
  pub misses : MissesEach avoid longer

-- A cube that holds the state of a position, and by its inputs meets a literal as goal in all states.
pub record IsGoalLifted (c : Circuit) (view : List Entry) (start : Start) (avoid : List (List Lit)) (literal : ℕ) (p : Position)
    (cube : List Lit) : Type 0 where
  pub part : is_part cube (value_literals 0 p.latches) ≡ true
  pub possible : (s : List Bool) → IsIn c cube s → MeetsConstraints c (position_of s p.inputs)
  pub holds : (s : List Bool) → IsIn c cube s → IsTrue (literal_at c (position_of s p.inputs) literal)
  pub avoids : (s : List Bool) → IsIn c cube s → All (λ a. cube_value (values_of s) a ≡ false) avoid
  pub ends : (s : List Bool) → IsIn c cube s → EndsAs start view (successor c p) (successor c (position_of s p.inputs))

-- a state of the arena, and one in its place
pub record EndsLike (view : List Entry) (from t : List Bool) : Type 0 where
  pub end : List Bool
  pub arena : in_arena view (State from) end ≡ true
  pub breaks : BreaksToo view end t

-- where a run of the arena may end: from the initial states anywhere
abbrev pub MayEnd : List Entry → Start → List Bool → Type 0
MayEnd view Initial t = Unit {0}
MayEnd view (State from) t = EndsLike view from t
