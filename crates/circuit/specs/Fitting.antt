-- What `AreInRange` says, section by section, as the tests of it go (scaffolding).
use Rattle.std.specs.Prelude.{ℕ, ◌+◌, ◌*◌, ◌≤◌, length}
use Rattle.std.specs.List.{All}
use Rattle.aig_semantics.specs.declared.limits.TheConstants.{MAX_VARIABLE, MAX_NUMBER, MAX_PROPERTY_LITERALS}
use Rattle.circuit.specs.declared.parts.Parts.{Parts}

-- a fact holds of each variable that is defined, section by section
pub record DefinesAll (P : ℕ → Type 0) (parts : Parts) : Type 0 where
  pub inputs : All P parts.inputs
  pub latches : All (λ latch. P latch.var) parts.latches
  pub gates : All (λ gate. P gate.var) parts.gates

-- a fact holds of each literal that is used, section by section
pub record UsesAll (P : ℕ → Type 0) (parts : Parts) : Type 0 where
  pub latches : All (λ latch. P latch.next) parts.latches
  pub gates : All (λ gate. P gate.rhs0 × P gate.rhs1) parts.gates
  pub constraints : All P parts.constraints
  pub justice : All (λ property. All P property) parts.justice
  pub fairness : All P parts.fairness
  pub outputs : All P parts.outputs
  pub bad : All P parts.bad

-- the lengths of the lists are within the limits
pub record HasFittingLengths (parts : Parts) : Type 0 where
  pub properties : All (λ property. length property + length parts.fairness ≤ MAX_PROPERTY_LITERALS) parts.justice
  pub inputs : length parts.inputs ≤ MAX_NUMBER
  pub latches : length parts.latches ≤ MAX_NUMBER
  pub gates : length parts.gates ≤ MAX_NUMBER
  pub constraints : length parts.constraints ≤ MAX_NUMBER
  pub justice : length parts.justice ≤ MAX_NUMBER
  pub fairness : length parts.fairness ≤ MAX_NUMBER
  pub outputs : length parts.outputs ≤ MAX_NUMBER
  pub bad : length parts.bad ≤ MAX_NUMBER

-- all of this, section by section
pub record IsFitting (parts : Parts) : Type 0 where
  pub max : parts.max ≤ MAX_VARIABLE
  pub variables : DefinesAll (λ v. (1 ≤ v) × (v ≤ parts.max)) parts
  pub literals : UsesAll (λ literal. literal ≤ 2 * parts.max + 1) parts
  pub lengths : HasFittingLengths parts
