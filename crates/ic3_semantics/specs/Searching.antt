-- What a search for a path answers: a path, or a set that is closed under the steps and misses the goal (IC3: Bradley,
-- SAT-based model checking without unrolling, 2011; under entries as in FAIR: Bradley, Somenzi, Hassan, Zhang, 2011).
use Rattle.std.specs.Prelude.{◌≡◌, ◌+◌, ◌-◌, ◌*◌, ◌^◌, ◌≤◌, min, ℕ, Bool, true, false, List, [], ◌∷◌, ◌++◌, length, Some, IsTrue}
use Rattle.std.specs.List.{All, list_any}
use Rattle.aig_semantics.specs.declared.traces.Position.{Position}
use Rattle.aig_semantics.specs.Circuits.{Circuit}
use Rattle.aig_semantics.specs.Runs.{literal_at, successor, MeetsConstraints}
use Rattle.proof_semantics.specs.declared.literals.Lit.{Lit}
use Rattle.proof_semantics.specs.Clauses.{cube_value, values_of, has_literal}
use Rattle.fair_semantics.specs.declared.entries.Kind.TheVariants.{Reach, Wall}
use Rattle.fair_semantics.specs.declared.entries.Use.{Use}
use Rattle.fair_semantics.specs.States.{initial_cube}
use Rattle.fair_semantics.specs.Entries.{Entry}
use Rattle.fair_semantics.specs.Validity.{set_behind, IsValid}
use Rattle.cnf_unroll.specs.Laws.{AreOver}
use Rattle.edge.specs.Units.{Spendings}
use Rattle.ic3_semantics.specs.declared.questions.Start.{Start}
use Rattle.ic3_semantics.specs.declared.questions.Start.TheVariants as starts
use Rattle.ic3_semantics.specs.declared.questions.Goal.{Goal}
use Rattle.ic3_semantics.specs.declared.questions.Goal.TheVariants as goals
use Rattle.ic3_semantics.specs.declared.questions.Reached.{Reached}
use Rattle.ic3_semantics.specs.declared.questions.Reached.TheVariants.{Path, Closed}
use Rattle.ic3_semantics.specs.declared.questions.ReachEnd.{ReachEnd}
use Rattle.ic3_semantics.specs.declared.questions.ReachEnd.TheVariants.{SpentConflicts, SpentSteps, Memory}
use Rattle.ic3_semantics.specs.Arenas.{MayStart, allows_step, in_arena}

-- A circuit, the entries that are known, and the start of a search.
pub record Question : Type 0 where
  pub circuit : Circuit
  pub view : List Entry
  pub start : Start

-- The positions lead from state s to state t, each by a step that the entries allow; where there are none, t is s.
abbrev pub Leads : Question → List Bool → List Position → List Bool → Type 0
Leads q s [] t = s ≡ t
Leads q s (p ∷ positions) t =
    (p.latches ≡ s) × MeetsConstraints q.circuit p
    × (allows_step q.view q.start s (successor q.circuit p) ≡ true) × Leads q (successor q.circuit p) positions t

-- positions, possibly none, that lead from a start to state t
pub record IsPathTo (q : Question) (t : List Bool) (positions : List Position) : Type 0 where
  pub from : List Bool
  pub starts : MayStart q.circuit q.start from
  pub leads : Leads q from positions t

-- A position that meets a literal as goal: constraints and literal are true at it, its state lies in no avoided cube,
-- and the state and its successor lie in the arena.
pub record MeetsLiteral (q : Question) (literal : ℕ) (avoid : List (List Lit)) (p : Position) : Type 0 where
  pub possible : MeetsConstraints q.circuit p
  pub holds : IsTrue (literal_at q.circuit p literal)
  pub avoids : All (λ cube. cube_value (values_of p.latches) cube ≡ false) avoid
  pub state : in_arena q.view q.start p.latches ≡ true
  pub next : in_arena q.view q.start (successor q.circuit p) ≡ true

-- Such positions, at least one, the last of which meets the literal.
pub record IsPathToLiteral (q : Question) (literal : ℕ) (avoid : List (List Lit)) (positions : List Position) :
    Type 0 where
  pub before : List Position
  pub last : Position
  pub is_last : positions ≡ before ++ last ∷ []
  pub meets : MeetsLiteral q literal avoid last
  pub path : IsPathTo q (successor q.circuit last) positions

-- a path to the goal: to a state, or to a position that meets a literal
abbrev pub IsPath : Question → Goal → List Position → Type 0
IsPath q (goals.State to) positions = IsPathTo q to.now positions
IsPath q (goals.Literal literal avoid) positions = IsPathToLiteral q literal avoid.now positions

-- no state of the set is the goal, or that of a position that meets it
abbrev pub Misses : Question → Goal → (List Bool → Bool) → Type 0
Misses q (goals.State to) set = set to.now ≡ false
Misses q (goals.Literal literal avoid) set = (p : Position) → MeetsLiteral q literal avoid.now p → set p.latches ≡ false

-- the entry that a closed set is: from the initial states a reach entry, from a state a wall
abbrev pub closed_entry : Start → List (List Lit) → List Use → Entry
closed_entry starts.Initial clauses uses = record { kind = Reach; clauses = clauses; uses = uses }
closed_entry (starts.State from) clauses uses = record { kind = Wall; clauses = clauses; uses = uses }

-- from the initial states, each clause holds a literal of the initial cube
abbrev pub HasBase : Circuit → Start → List (List Lit) → Type 0
HasBase c starts.Initial clauses = All (λ clause. list_any (has_literal clause) (initial_cube c) ≡ true) clauses
HasBase c (starts.State from) clauses = Unit {0}

-- An entry that is valid behind the known ones, so that no step that its uses allow leaves its set, which holds each
-- start and misses the goal.
pub record Separates (q : Question) (goal : Goal) (e : Entry) : Type 0 where
  pub over : AreOver (length q.circuit.latches) e.clauses
  pub valid : IsValid q.circuit q.view e
  pub base : HasBase q.circuit q.start e.clauses
  pub holds : (s : List Bool) → MayStart q.circuit q.start s → set_behind q.view e s ≡ true
  pub misses : Misses q goal (set_behind q.view e)

-- what an answer says: a path is one, and where a set is answered there is no path
abbrev pub IsReached : Question → Goal → Reached → Type 0
IsReached q goal (Path positions) = IsPath q goal positions
IsReached q goal (Closed clauses uses) =
    Separates q goal (closed_entry q.start clauses uses) × ((positions : List Position) → IsPath q goal positions → ⊥)

-- A goal of this circuit: a state has a value for each latch, a literal is one of a variable up to the greatest, and
-- avoided cubes are over the latches.
abbrev pub IsGoal : Circuit → Goal → Type 0
IsGoal c (goals.State to) = length to.now ≡ length c.latches
IsGoal c (goals.Literal literal avoid) = (literal ≤ 2 * c.max + 1) × AreOver (length c.latches) avoid.now

-- a start of this circuit: a state has a value for each latch
abbrev pub IsStart : Circuit → Start → Type 0
IsStart c starts.Initial = Unit {0}
IsStart c (starts.State from) = length from ≡ length c.latches

-- Spent comes where the count of its kind equals its limit.
abbrev pub IsReachEnd : Spendings → ReachEnd → Type 0
IsReachEnd meter SpentConflicts = meter.conflict_limit ≡ Some meter.conflicts
IsReachEnd meter SpentSteps = meter.step_limit ≡ Some meter.steps
IsReachEnd meter Memory = Unit {0}

-- The limits are as before, and neither count fell; over n latches a search takes at most so many steps: a lemma takes
-- a state from its frame, and no two frames allow the same states.
pub record CountsSearch (n : ℕ) (old new : Spendings) : Type 0 where
  pub conflict_limit : new.conflict_limit ≡ old.conflict_limit
  pub step_limit : new.step_limit ≡ old.step_limit
  pub conflicts : old.conflicts ≤ new.conflicts
  pub steps : old.steps ≤ new.steps
  pub bound : new.steps ≤ old.steps + (2 ^ n + 2) * (2 ^ n + 2)

-- At least so many steps were counted, or their count stands at its greatest value.
abbrev pub CountsAtLeast : ℕ → Spendings → Spendings → Type 0
CountsAtLeast least old new = min (old.steps + least) (2 ^ 64 - 1) ≤ new.steps

-- The limits are as before, no count fell, and at most so many steps were counted.
pub record CountsUpTo (most : ℕ) (old new : Spendings) : Type 0 where
  pub conflict_limit : new.conflict_limit ≡ old.conflict_limit
  pub step_limit : new.step_limit ≡ old.step_limit
  pub conflicts : old.conflicts ≤ new.conflicts
  pub steps : old.steps ≤ new.steps
  pub bound : new.steps ≤ old.steps + most
