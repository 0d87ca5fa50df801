-- Scaffolding of inner functions. What has to be done with a clause of which a watched literal became false.
use Rattle.std.specs.Prelude.{◌≡◌, ◌⊎◌, ◌||◌, ℕ, true, false, List, take, drop, Option, None, Some}
use Rattle.std.specs.List.{list_all}
use Rattle.proof_semantics.specs.Clauses.{lit_eq, has_literal}
use Rattle.proof_semantics.specs.declared.literals.Lit.{Lit}
use Rattle.cdcl_trail.specs.Trails.{Step}
use Rattle.cdcl_trail.specs.Propagation.{is_false, is_falsified, is_unit_for}
use Rattle.cdcl_trail.specs.declared.looking.Finding.{Finding}
use Rattle.cdcl_trail.specs.declared.looking.Finding.TheVariants.{Moves, Forces, Conflict}
use Rattle.cdcl_trail.specs.declared.pairs.Pair.{Pair}

-- the literal beside a given one; none where the given one is neither
abbrev pub StandsBeside : Pair → Lit → Option Lit → Type 0
StandsBeside pair a None = (lit_eq pair.first a ≡ false) × (lit_eq pair.second a ≡ false)
StandsBeside pair a (Some b) = ((pair.first ≡ a) × (pair.second ≡ b)) ⊎ ((pair.second ≡ a) × (pair.first ≡ b))

-- a literal of the clause that is not false, and not the other one
pub record IsReplacement (steps : List Step) (clause : List Lit) (other a : Lit) : Type 0 where
  pub inside : has_literal clause a ≡ true
  pub unfalsified : is_false steps a ≡ false
  pub apart : lit_eq other a ≡ false

-- where there is none, each literal but the other one is false
abbrev pub ReplacementSays : List Step → List Lit → Lit → Option Lit → Type 0
ReplacementSays steps clause other None = list_all (λ b. lit_eq other b || is_false steps b) clause ≡ true
ReplacementSays steps clause other (Some a) = IsReplacement steps clause other a

abbrev pub LookSays : List Step → List Lit → Lit → Finding → Type 0
LookSays steps clause other (Moves a) = IsReplacement steps clause other a
LookSays steps clause other Forces = is_unit_for steps clause other ≡ true
LookSays steps clause other Conflict = is_falsified steps clause ≡ true

-- a literal of the clause that is not the other one
abbrev pub IsLate : List Lit → Lit → Lit → Type 0
IsLate clause other a = (has_literal clause a ≡ true) × (lit_eq other a ≡ false)

-- The literal takes the place of the kept one or not, but never where it is the excepted one, and always where none is kept.
abbrev pub IsLater : Option Lit → Lit → Lit → Option Lit → Type 0
IsLater best a except found =
    ((lit_eq except a ≡ true) × (found ≡ best)) ⊎ ((lit_eq except a ≡ false) × ((found ≡ Some a) ⊎ ((b : Lit) × (best ≡ Some b) × (found ≡ best))))

-- what is kept of the literals before a place
abbrev pub HasLate : List Lit → Lit → ℕ → Option Lit → Type 0
HasLate clause other place None = list_all (lit_eq other) (drop place clause) ≡ list_all (lit_eq other) clause
HasLate clause other place (Some a) = IsLate clause other a

-- the first steps make no literal of the pair false
abbrev pub IsOpenTo : ℕ → List Step → Pair → Type 0
IsOpenTo n steps pair = (is_false (take n steps) pair.first ≡ false) × (is_false (take n steps) pair.second ≡ false)
