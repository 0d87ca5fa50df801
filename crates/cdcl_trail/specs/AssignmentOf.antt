-- Scaffolding of inner functions. The steps of a trail, by what an assignment keeps.
use Rattle.std.specs.Prelude.{◌≡◌, ℕ, ◌+◌, true, List, [], ◌∷◌, length, Option, None, Some, if◌then◌else◌, ◌==◌, slice_get}
use Rattle.std.specs.Option.{option_map, option_flatten}
use Rattle.proof_semantics.specs.declared.literals.Lit.{Lit}
use Rattle.packed_literals.specs.DenseOf.{told}
use Rattle.packed_literals.specs.ValuesOf.{value_told}
use Rattle.cdcl_trail.specs.Trails.{Step, Steps, step, opened_by, once, level, value_of}
use Rattle.cdcl_trail.specs.declared.assignment.Assignment.TheInside.{Inside}

-- literals and their reasons, side by side
abbrev pub steps_from : List Lit → List (Option ℕ) → List Step
steps_from [] reasons = []
steps_from (a ∷ lits) [] = []
steps_from (a ∷ lits) (reason ∷ reasons) = step a reason ∷ steps_from lits reasons

-- where the literal of a variable stands
abbrev pub place_in : List Lit → ℕ → Option ℕ
place_in [] var = None
place_in (a ∷ lits) var = if a.var == var then Some 0 else option_map (λ place. place + 1) (place_in lits var)

abbrev pub state_of : Inside → Steps
state_of t = record { steps = steps_from t.literals.items t.reasons.items }

-- the reason at a place
abbrev pub reason_at : List (Option ℕ) → Option ℕ → Option ℕ
reason_at reasons None = None
reason_at reasons (Some place) = option_flatten (slice_get reasons place)

-- how many of the reasons are none
abbrev pub count_assumed : List (Option ℕ) → ℕ
count_assumed [] = 0
count_assumed (reason ∷ reasons) = opened_by reason + count_assumed reasons

-- the level of each literal, where those before it are on level n
abbrev pub levels_from : ℕ → List (Option ℕ) → List ℕ
levels_from n [] = []
levels_from n (reason ∷ reasons) = (n + opened_by reason) ∷ levels_from (n + opened_by reason) reasons

-- Each literal has a reason or none beside it, no variable comes twice, and levels, places, values and the level are told
-- right.
pub record IsTabulated (t : Inside) : Type 0 where
  pub beside : length t.reasons.items ≡ length t.literals.items
  pub apart : once t.literals.items ≡ true
  pub levels : t.levels.items ≡ levels_from 0 t.reasons.items
  pub places : (var : ℕ) → told t.places var ≡ place_in t.literals.items var
  pub values : (var : ℕ) → value_told t.values var ≡ value_of (steps_from t.literals.items t.reasons.items) var
  pub depth : t.level ≡ level (steps_from t.literals.items t.reasons.items)
