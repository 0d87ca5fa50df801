-- What a search keeps (scaffolding): frames of IC3 (Bradley, 2011), and a solver of one step that has their lemmas.
use Rattle.std.specs.Prelude.{◌≡◌, ◌↔◌, ℕ, ◌+◌, ◌-◌, ◌<◌, Bool, true, false, List, [], length, Option, Some, None}
use Rattle.std.specs.List.{All, list_any}
use Rattle.aig_semantics.specs.declared.traces.Position.{Position}
use Rattle.aig_semantics.specs.Runs.{successor}
use Rattle.proof_semantics.specs.declared.literals.Lit.{Lit}
use Rattle.proof_semantics.specs.Clauses.{clause_value, cube_value, values_of, has_literal}
use Rattle.cnf_unroll.specs.Laws.{AreOver}
use Rattle.ic3_frames.specs.Frames.{frame_at, own_lemmas}
use Rattle.ic3_frames.specs.Room.{allowed_by}
use Rattle.ic3_frames.specs.Witnessing.{IsStuck}
use Rattle.ic3_semantics.specs.declared.questions.Goal.{Goal}
use Rattle.ic3_semantics.specs.declared.questions.Goal.TheVariants as goals
use Rattle.ic3_semantics.specs.Arenas.{MayStart}
use Rattle.ic3_semantics.specs.declared.lemmas.Lemma.{Lemma}
use Rattle.ic3_semantics.specs.Stepping.{Stepping, meets_from, IsArenaStep, IsOver}
use Rattle.ic3_semantics.specs.Searching.{Question, IsPath, Misses, IsGoal}

-- The cube over the latches holds exactly in the starts.
pub record IsStartCube (q : Question) (cube : List Lit) : Type 0 where
  pub over : IsOver (length q.circuit.latches) cube
  pub exactly : (s : List Bool) →
      MayStart q.circuit q.start s ↔ ((length s ≡ length q.circuit.latches) × (cube_value (values_of s) cube ≡ true))

-- the clause holds a literal of the cube
abbrev pub has_one_of : List Lit → List Lit → Bool
has_one_of cube clause = list_any (has_literal clause) cube

-- Each lemma is over the latches and holds a literal of the start cube; the lowest frame allows starts alone; and each
-- frame steps into the next.
pub record IsSound (q : Question) (cube : List Lit) (levels : List (List (List Lit))) : Type 0 where
  pub over : AreOver (length q.circuit.latches) (frame_at levels 0)
  pub based : All (λ clause. has_one_of cube clause ≡ true) (frame_at levels 0)
  pub starts : (s : List Bool) → length s ≡ length q.circuit.latches → allowed_by (frame_at levels 0) s ≡ true
      → MayStart q.circuit q.start s
  pub steps : (k : ℕ) (p : Position) → k + 1 < length levels → IsArenaStep q p
      → allowed_by (frame_at levels k) p.latches ≡ true
      → allowed_by (frame_at levels (k + 1)) (successor q.circuit p) ≡ true

-- From the frame below a level each arena step from a state that meets the clause leads to one that does.
abbrev pub IsRelative : Question → List (List (List Lit)) → ℕ → List Lit → Type 0
IsRelative q levels level clause =
    (k : ℕ) (p : Position) → k + 1 ≡ level → IsArenaStep q p → allowed_by (frame_at levels k) p.latches ≡ true
    → clause_value (values_of p.latches) clause ≡ true → clause_value (values_of (successor q.circuit p)) clause ≡ true

-- The solver's lemmas from each level on allow the states that the frame of that level allows.
abbrev pub Agree : List Lemma → List (List (List Lit)) → Type 0
Agree lemmas levels = (k : ℕ) (s : List Bool) → meets_from lemmas k s ≡ allowed_by (frame_at levels k) s

-- a search: a cube of the starts, sound frames, and a solver that agrees with them
pub record IsSearch (cube : List Lit) (steps : Stepping) (levels : List (List (List Lit))) : Type 0 where
  pub starts : IsStartCube steps.question cube
  pub sound : IsSound steps.question cube levels
  pub agree : Agree steps.lemmas levels

-- nothing but lemmas changed in the solver
pub record KeepsQuestion (old new : Stepping) : Type 0 where
  pub question : new.question ≡ old.question
  pub avoid : new.avoid ≡ old.avoid

-- the goal avoids these cubes
abbrev pub AvoidsAsked : List (List Lit) → Goal → Type 0
AvoidsAsked avoid (goals.State to) = avoid ≡ []
AvoidsAsked avoid (goals.Literal literal those) = avoid ≡ those.now

-- a goal of the solver's circuit, which avoids what the solver avoids
pub record IsGoalOf (steps : Stepping) (goal : Goal) : Type 0 where
  pub of : IsGoal steps.question.circuit goal
  pub avoids : AvoidsAsked steps.avoid goal

-- the lemmas that a level has and the next has not are stuck
abbrev pub AreStuck : Question → List (List (List Lit)) → ℕ → Type 0
AreStuck q levels k = All (IsStuck q levels k) (own_lemmas levels k)

-- the last frame has no state of the goal
abbrev pub MissesLast : Question → Goal → List (List (List Lit)) → Type 0
MissesLast q goal levels = Misses q goal (allowed_by (frame_at levels (length levels - 1)))

-- what blocking comes to: a path, or that
abbrev pub IsBlocked : Question → Goal → List (List (List Lit)) → Option (List Position) → Type 0
IsBlocked q goal levels (Some positions) = IsPath q goal positions
IsBlocked q goal levels None = MissesLast q goal levels
