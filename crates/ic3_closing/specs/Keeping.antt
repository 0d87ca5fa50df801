-- A closed set that lost some of its clauses and uses.
use Rattle.std.specs.Prelude.{◌≡◌, ℕ, ◌+◌, Bool, true, false, List, [], ◌∷◌, ◌++◌, slice_index_or, if◌then◌else◌}
use Rattle.proof_semantics.specs.declared.literals.Lit.{Lit}
use Rattle.fair_semantics.specs.declared.entries.Side.TheVariants.{Any}
use Rattle.fair_semantics.specs.declared.entries.Use.{Use}
use Rattle.ic3_closing.specs.declared.sets.ClosedSet.{ClosedSet}

-- the clauses that are marked, the first of them by mark i
abbrev pub kept_clauses : List Bool → ℕ → List (List Lit) → List (List Lit)
kept_clauses marks i [] = []
kept_clauses marks i (clause ∷ clauses) =
    if slice_index_or marks i false then clause ∷ kept_clauses marks (i + 1) clauses else kept_clauses marks (i + 1) clauses

-- a use as it is, without its side, or not at all
abbrev pub kept_use : Bool → Bool → Use → List Use
kept_use false side u = []
kept_use true true u = u ∷ []
kept_use true false u = record { entry = u.entry; side = Any } ∷ []

-- the uses that are marked, and the sides of those that are marked too
abbrev pub kept_uses : List Bool → List Bool → ℕ → List Use → List Use
kept_uses marks sides i [] = []
kept_uses marks sides i (u ∷ uses) =
    kept_use (slice_index_or marks i false) (slice_index_or sides i false) u ++ kept_uses marks sides (i + 1) uses

-- A part of a closed set: the clauses and the uses that are marked, in their order, a use possibly without its side.
pub record IsPartOf (clauses : List (List Lit)) (uses : List Use) (part : ClosedSet) : Type 0 where
  pub kept : List Bool
  pub used : List Bool
  pub sided : List Bool
  pub clauses_are : part.clauses ≡ kept_clauses kept 0 clauses
  pub uses_are : part.uses ≡ kept_uses used sided 0 uses
