-- Scaffolding of inner functions. A walk along a skeleton: from position to position, or up to an entry that excludes
-- the skeleton.
use Rattle.std.specs.Prelude.{◌≡◌, ℕ, ◌+◌, ◌-◌, ◌<◌, Bool, true, List, [], ◌∷◌, ◌++◌, map, length, slice_set, slice_index_or}
use Rattle.std.specs.List.{All}
use Rattle.aig_semantics.specs.declared.traces.Position.{Position}
use Rattle.aig_semantics.specs.Circuits.{Circuit}
use Rattle.aig_semantics.specs.Runs.{successor, MeetsConstraints}
use Rattle.aig_semantics.specs.Stimuli.{IsFairLassoOf}
use Rattle.cnf_unroll.specs.Laws.{AreOver}
use Rattle.entry.specs.Proved.{holds_initial}
use Rattle.fair_semantics.specs.declared.entries.Kind.TheVariants.{Reach}
use Rattle.fair_semantics.specs.declared.skeletons.Situation.{Situation}
use Rattle.fair_semantics.specs.declared.skeletons.Skeleton.{Skeleton}
use Rattle.fair_semantics.specs.Entries.{Entry}
use Rattle.fair_semantics.specs.Skeletons.{excludes}
use Rattle.fair_semantics.specs.Validity.{IsValid}
use Rattle.lasso_join.specs.Fitting.{LeadsTo, IsStemTo}
use Rattle.skeleton.specs.Finding.{IsAllowed}
use Rattle.fair_round.specs.declared.scope.Scope.{Scope}
use Rattle.fair_round.specs.declared.ways.Bar.{Bar}
use Rattle.fair_round.specs.declared.ways.Way.{Way}
use Rattle.fair_round.specs.declared.ways.Way.TheVariants as ways
use Rattle.fair_round.specs.declared.walking.Advance.{Advance}
use Rattle.fair_round.specs.declared.walking.Advance.TheVariants as advances
use Rattle.fair_round.specs.declared.walking.Walked.{Walked}
use Rattle.fair_round.specs.declared.walking.Walked.TheVariants as walks
use Rattle.fair_round.specs.declared.seeking.Sought.{Sought}
use Rattle.fair_round.specs.declared.seeking.Sought.TheVariants as soughts
use Rattle.fair_round.specs.Scopes.{entries_of}

abbrev pub entry_of_bar : Bar → Entry
entry_of_bar bar = record { kind = bar.kind; clauses = bar.clauses; uses = bar.uses }

-- An entry that is valid behind these and excludes the skeleton.
pub record Excludes (c : Circuit) (view : List Entry) (e : Entry) (skeleton : Skeleton) : Type 0 where
  pub over : AreOver (length c.latches) e.clauses
  pub valid : IsValid c view e
  pub base : e.kind ≡ Reach → All (holds_initial c) e.clauses
  pub apart : excludes (view ++ e ∷ []) (length view) skeleton ≡ true

abbrev pub skeleton_of : List Situation → Skeleton
skeleton_of situations = record { situations = situations }

abbrev pub states : List Situation → List (List Bool)
states situations = map (λ s. s.position.latches) situations

abbrev pub successors : List Situation → List (List Bool)
successors situations = map (λ s. s.successor) situations

-- the first state of the skeleton is reached, or an entry excludes it
abbrev pub IsStem : Circuit → List Entry → List Situation → Way → Type 0
IsStem c view situations (ways.Open stem) = IsStemTo c (slice_index_or (states situations) 0 []) stem
IsStem c view situations (ways.Barred bar) = Excludes c view (entry_of_bar bar) (skeleton_of situations)

-- an initial run, or an entry that excludes the skeleton
abbrev pub IsLiteralStem : Circuit → List Entry → List Situation → Way → Type 0
IsLiteralStem c view situations (ways.Open run) = (t : List Bool) × IsStemTo c t run
IsLiteralStem c view situations (ways.Barred bar) = Excludes c view (entry_of_bar bar) (skeleton_of situations)

-- a run from one state to another, or an entry that excludes the skeleton
abbrev pub IsWay : Circuit → List Entry → List Bool → List Bool → List Situation → Way → Type 0
IsWay c view s t situations (ways.Open positions) = LeadsTo c s t positions
IsWay c view s t situations (ways.Barred bar) = Excludes c view (entry_of_bar bar) (skeleton_of situations)

-- A run to another situation in place k; with it the skeleton is still allowed.
pub record Moves (c : Circuit) (view : List Entry) (j : ℕ) (situations : List Situation) (k : ℕ) (before : List Position)
    (to : Situation) : Type 0 where
  pub leads : LeadsTo c (slice_index_or (successors situations) (k - 1) []) to.position.latches before
  pub allowed : IsAllowed c j view (skeleton_of (slice_set situations k to))

abbrev pub IsAdvanceTo : Circuit → List Entry → ℕ → List Situation → ℕ → Advance → Type 0
IsAdvanceTo c view j situations k (advances.Piece before to) = Moves c view j situations k before to
IsAdvanceTo c view j situations k (advances.Barred bar) = Excludes c view (entry_of_bar bar) (skeleton_of situations)

-- every constraint is true at the last of the positions, and there is one
abbrev pub EndsPossible : Circuit → List Position → Type 0
EndsPossible c positions =
    (before : List Position) × ((last : Position) × ((positions ≡ before ++ last ∷ []) × MeetsConstraints c last))

-- these positions, of which the last one with its successor is the situation
abbrev pub IsPieceOf : Circuit → List Position → Advance → Type 0
IsPieceOf c positions (advances.Piece before to) =
    (positions ≡ before ++ to.position ∷ []) × (to.successor ≡ successor c to.position)
IsPieceOf c positions (advances.Barred bar) = ⊥

-- The first n pieces lead from each situation to the next one.
pub record AreWalked (c : Circuit) (situations : List Situation) (n : ℕ) (pieces : List (List Position)) : Type 0 where
  pub count : length pieces ≡ n
  pub lead : (i : ℕ) → i < n →
      LeadsTo c (slice_index_or (successors situations) i []) (slice_index_or (states situations) (i + 1) [])
      (slice_index_or pieces i [])

-- An entry that excludes the skeleton, and the pieces up to one of its situations.
pub record IsBarredBehind (c : Circuit) (view : List Entry) (situations : List Situation) (bar : Bar)
    (pieces : List (List Position)) : Type 0 where
  pub excludes : Excludes c view (entry_of_bar bar) (skeleton_of situations)
  pub some : length pieces < length situations
  pub walked : AreWalked c situations (length pieces) pieces

-- a way from the first situation to the last, or an entry that excludes the skeleton
abbrev pub IsWalk : Circuit → List Entry → List Situation → Walked → Type 0
IsWalk c view situations (walks.Pieces pieces) = AreWalked c situations (length situations - 1) pieces
IsWalk c view situations (walks.Barred bar pieces) = IsBarredBehind c view situations bar pieces

-- a fair lasso, or a skeleton that the entries allow, and an entry that excludes it
abbrev pub IsSought : Circuit → List Entry → ℕ → Sought → Type 0
IsSought c view j (soughts.Lasso lasso) = IsFairLassoOf c j lasso
IsSought c view j (soughts.Barred bar skeleton) =
    IsAllowed c j view skeleton × Excludes c view (entry_of_bar bar) skeleton

-- the same over a scope
abbrev pub IsSoughtIn : Scope → Sought → Type 0
IsSoughtIn s sought = IsSought s.circuit.now (entries_of s) s.property sought

-- over a scope: an entry that excludes the skeleton of these situations
abbrev pub IsBarIn : Scope → List Situation → Bar → Type 0
IsBarIn s situations bar = Excludes s.circuit.now (entries_of s) (entry_of_bar bar) (skeleton_of situations)
