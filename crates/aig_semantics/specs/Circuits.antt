-- Circuits, and which of them are checked (AIGER 1.9; Biere, Heljanko, Wieringa, 2011).
use Rattle.std.specs.Prelude.{◌≡◌, ◌≢◌, ℕ, ◌+◌, ◌*◌, ◌≤◌, ◌⊎◌, List, [], ◌∷◌, ◌++◌, map, length, slice_index_or}
use Rattle.std.specs.List.{All, Any, AllPairs, Contains, flat_map}
use Rattle.aig_semantics.specs.declared.parts.Latch.{Latch}
use Rattle.aig_semantics.specs.declared.parts.Gate.{Gate}
use Rattle.aig_semantics.specs.declared.limits.TheConstants.{MAX_VARIABLE, MAX_PROPERTY_LITERALS, MAX_NUMBER}
use Rattle.aig_semantics.specs.Literals.{variable_of}

-- The greatest variable; the input variables, latches and gates in the order of the file; and literals: those that
-- constrain each position, the lists of the justice properties, and those of fairness.
pub record Circuit : Type 0 where
  pub max : ℕ
  pub inputs : List ℕ
  pub latches : List Latch
  pub gates : List Gate
  pub constraints : List ℕ
  pub justice : List (List ℕ)
  pub fairness : List ℕ

-- the variables that are an input, a latch or a gate
abbrev pub defined : Circuit → List ℕ
defined c = c.inputs ++ map (λ latch. latch.var) c.latches ++ map (λ gate. gate.var) c.gates

-- the literals that the circuit reads: next values, right sides, constraints, properties, fairness
abbrev pub used : Circuit → List ℕ
used c =
    map (λ latch. latch.next) c.latches ++ flat_map (λ gate. gate.rhs0 ∷ gate.rhs1 ∷ []) c.gates
    ++ c.constraints ++ flat_map (λ property. property) c.justice ++ c.fairness

-- variable v is a gate with a literal of variable w on a right side
abbrev pub Reads : Circuit → ℕ → ℕ → Type 0
Reads c v w = Any (λ gate. (gate.var ≡ v) × ((variable_of gate.rhs0 ≡ w) ⊎ (variable_of gate.rhs1 ≡ w))) c.gates

-- v reads the first of the variables between, each of these the next one, and the last of them w
abbrev pub ReadsThrough : Circuit → ℕ → List ℕ → ℕ → Type 0
ReadsThrough c v [] w = Reads c v w
ReadsThrough c v (u ∷ between) w = Reads c v u × ReadsThrough c u between w

-- gate v depends on itself through gates
abbrev pub IsOnCycle : Circuit → ℕ → Type 0
IsOnCycle c v = (between : List ℕ) × ReadsThrough c v between v

-- each variable above 0 of these literals is an input, a latch or a gate
abbrev pub AreDefined : Circuit → List ℕ → Type 0
AreDefined c literals = All (λ literal. (variable_of literal ≡ 0) ⊎ Contains (defined c) (variable_of literal)) literals

-- a circuit that has a meaning
pub record IsChecked (c : Circuit) : Type 0 where
  pub in_range : All (λ v. (1 ≤ v) × (v ≤ c.max)) (defined c)
  pub once : AllPairs (λ v w. v ≢ w) (defined c)
  pub used_defined : AreDefined c (used c)
  pub acyclic : (v : ℕ) → IsOnCycle c v → ⊥

-- the limits of this program on a circuit, and the range of its literals
pub record IsWithinLimits (c : Circuit) : Type 0 where
  pub max : c.max ≤ MAX_VARIABLE
  pub literals : All (λ literal. literal ≤ 2 * c.max + 1) (used c)
  pub properties : All (λ property. length property + length c.fairness ≤ MAX_PROPERTY_LITERALS) c.justice
  pub inputs : length c.inputs ≤ MAX_NUMBER
  pub latches : length c.latches ≤ MAX_NUMBER
  pub gates : length c.gates ≤ MAX_NUMBER
  pub constraints : length c.constraints ≤ MAX_NUMBER
  pub justice : length c.justice ≤ MAX_NUMBER
  pub fairness : length c.fairness ≤ MAX_NUMBER

-- the literals of property j, and then those of fairness
abbrev pub fair_literals : Circuit → ℕ → List ℕ
fair_literals c j = slice_index_or c.justice j [] ++ c.fairness
