-- The laws of entries. What they come to: where a list of valid entries allows no skeleton of a property, the circuit
-- has no fair lasso of it.
use Rattle.std.specs.Prelude.{◌≡◌, ℕ, ◌<◌, ◌↔◌, Bool, true, false, not, List, [], ◌∷◌, ◌++◌, length, drop}
use Rattle.std.specs.List.{All, list_any, flat_map}
use Rattle.aig_semantics.specs.declared.traces.Position.{Position}
use Rattle.aig_semantics.specs.Circuits.{Circuit}
use Rattle.aig_semantics.specs.Runs.{successor, IsInitial, IsInitialRun, IsFairLasso}
use Rattle.proof_semantics.specs.Clauses.{cube_value, values_of, has_literal}
use Rattle.proof_semantics.specs.declared.literals.Lit.{Lit}
use Rattle.fair_semantics.specs.declared.entries.Kind.TheVariants.{Reach, Wall}
use Rattle.fair_semantics.specs.declared.entries.Side.{Side}
use Rattle.fair_semantics.specs.declared.entries.Side.TheVariants as sides
use Rattle.fair_semantics.specs.declared.entries.Use.{Use}
use Rattle.fair_semantics.specs.declared.skeletons.Skeleton.{Skeleton}
use Rattle.fair_semantics.specs.States.{meets_clauses, crosses, initial_cube}
use Rattle.fair_semantics.specs.Entries.{Entry, numbered, used_entries, entry_at, sets_of, set_at, set_over, Uses, AreClosed}
use Rattle.fair_semantics.specs.Allowing.{allows_by, all_allow, allow}
use Rattle.fair_semantics.specs.Skeletons.{IsSkeleton, places}
use Rattle.fair_semantics.specs.Validity.{set_behind, IsValid, AreValid}
use Rattle.fair_semantics.specs.Rounds.{HasFewRounds}

-- A reach entry allows a step exactly where both ends lie in its set, a wall exactly where the step does not cross it.
abbrev pub AllowsSteps : Type 0
AllowsSteps =
    (set : List Bool → Bool) (s t : List Bool)
    → ((allows_by Reach set (s ∷ t ∷ []) ≡ true) ↔ ((set s ≡ true) × (set t ≡ true)))
    × (allows_by Wall set (s ∷ t ∷ []) ≡ not (crosses set s t))

-- A state is initial exactly where it has a value for each latch and makes each literal of the initial cube true.
abbrev pub InitialIsInCube : Type 0
InitialIsInCube =
    (c : Circuit) (s : List Bool)
    → IsInitial c s ↔ ((length s ≡ length c.latches) × (cube_value (values_of s) (initial_cube c) ≡ true))

-- Clauses that each hold a literal of the initial cube hold in every initial state.
abbrev pub HoldsInitialStates : Type 0
HoldsInitialStates =
    (c : Circuit) (clauses : List (List Lit)) (s : List Bool)
    → All (λ clause. list_any (has_literal clause) (initial_cube c) ≡ true) clauses → IsInitial c s
    → meets_clauses clauses s ≡ true

-- The set of an entry is the one that it has over the entries before it, whatever stands behind it.
abbrev pub SetsStandBehind : Type 0
SetsStandBehind =
    (before : List Entry) (e : Entry) (after : List Entry) (s : List Bool)
    → set_at (before ++ e ∷ after) (length before) s ≡ set_behind before e s

-- Closed uses can be understood without the rest of the list: the used entries have the same sets over each other, and
-- so allow the same, and an entry with these uses has the same set.
pub record StandAlone (before : List Entry) (uses : List Use) : Type 0 where
  pub sets : (n : ℕ) → Uses uses n → (s : List Bool) → sets_of (used_entries before uses) n s ≡ set_at before n s
  pub allowed : (states : List (List Bool)) →
      allow (used_entries before uses) states ≡ all_allow (set_at before) (used_entries before uses) states
  pub entry : (e : Entry) → e.uses ≡ uses → (s : List Bool) →
      set_over (sets_of (used_entries before uses)) e s ≡ set_behind before e s

abbrev pub UsesStandAlone : Type 0
UsesStandAlone = (before : List Entry) (uses : List Use) → AreClosed before uses → StandAlone before uses

-- What a list allows, closed uses of it allow.
abbrev pub UsesAllow : Type 0
UsesAllow =
    (entries : List Entry) (uses : List Use) (states : List (List Bool))
    → AreClosed entries uses → allow (numbered entries) states ≡ true → allow (used_entries entries uses) states ≡ true

-- the uses that name a side
abbrev pub named_use : Side → Use → List Use
named_use sides.Any u = []
named_use sides.In u = u ∷ []
named_use sides.Out u = u ∷ []

abbrev pub named_uses : List Use → List Use
named_uses uses = flat_map (λ u. named_use u.side u) uses

-- two entries of one kind, with the same clauses and the same named sides
pub record SayTheSame (e f : Entry) : Type 0 where
  pub kind : e.kind ≡ f.kind
  pub clauses : e.clauses ≡ f.clauses
  pub named : named_uses e.uses ≡ named_uses f.uses

-- An entry that is valid behind one list is valid behind each in which the numbers that it uses stand for entries of
-- the same kind, with the same clauses and named sides.
abbrev pub StaysValid : Type 0
StaysValid =
    (c : Circuit) (before other : List Entry) (e : Entry) → IsValid c before e
    → All (λ u. (u.entry < length other) × SayTheSame (entry_at other u.entry) (entry_at before u.entry)) e.uses
    → IsValid c other e

-- What a list allows, the list without its last entries allows.
abbrev pub FrontAllows : Type 0
FrontAllows =
    (before after : List Entry) (states : List (List Bool))
    → allow (numbered (before ++ after)) states ≡ true → allow (numbered before) states ≡ true

-- the latches and the successor of each of these positions lie on this side of the set: in it, or outside it
abbrev pub LieOn : Circuit → Bool → (List Bool → Bool) → List Position → Type 0
LieOn c side set positions = All (λ p. (set p.latches ≡ side) × (set (successor c p) ≡ side)) positions

-- In a list of valid entries each reach entry holds the latches and the successor of every position of every initial
-- run.
abbrev pub ReachHoldsRuns : Type 0
ReachHoldsRuns =
    (c : Circuit) (entries : List Entry) (n : ℕ) (run : List Position)
    → AreValid c entries → n < length entries → (entry_at entries n).kind ≡ Reach → IsInitialRun c run
    → LieOn c true (set_at entries n) run

-- In a list of valid entries the loop of every fair lasso lies on one side of each wall.
abbrev pub LoopsKeepSides : Type 0
LoopsKeepSides =
    (c : Circuit) (entries : List Entry) (n j : ℕ) (run : List Position) (from : ℕ)
    → AreValid c entries → n < length entries → (entry_at entries n).kind ≡ Wall → IsFairLasso c j run from
    → (side : Bool) × LieOn c side (set_at entries n) (drop from run)

-- Where a list of valid entries allows no skeleton of a property, no initial run and place form a fair lasso of that
-- property.
abbrev pub CertifiesNoLasso : Type 0
CertifiesNoLasso =
    (c : Circuit) (entries : List Entry) (j : ℕ)
    → AreValid c entries
    → ((skeleton : Skeleton) → IsSkeleton c j skeleton → allow (numbered entries) (places skeleton) ≡ false)
    → (run : List Position) (from : ℕ) → IsFairLasso c j run from → ⊥

-- The same where closed uses of the list allow none.
abbrev pub UsesCertifyNoLasso : Type 0
UsesCertifyNoLasso =
    (c : Circuit) (entries : List Entry) (uses : List Use) (j : ℕ)
    → AreValid c entries → AreClosed entries uses
    → ((skeleton : Skeleton) → IsSkeleton c j skeleton → allow (used_entries entries uses) (places skeleton) ≡ false)
    → (run : List Position) (from : ℕ) → IsFairLasso c j run from → ⊥

-- Where no initial run and place form a fair lasso of a property, no initial run has more rounds of it than there are
-- states: of more rounds two would begin in the same state, and what lies between would be a lasso.
abbrev pub NoLassoMeansFewRounds : Type 0
NoLassoMeansFewRounds =
    (c : Circuit) (j : ℕ)
    → j < length c.justice
    → ((run : List Position) (from : ℕ) → IsFairLasso c j run from → ⊥) → HasFewRounds c j
