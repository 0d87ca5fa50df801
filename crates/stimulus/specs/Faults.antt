-- What is wrong with a stimulus on a circuit: the first fault. The order in which they are looked for is this program's.
use Rattle.std.specs.Prelude.{◌≡◌, ◌≢◌, ℕ, zero, suc, ◌+◌, ◌≤◌, ◌<◌, Bool, List, [], ◌∷◌, length, take, slice_index_or, slice_get, Some, All}
use Rattle.aig_semantics.specs.declared.parts.Latch.{Latch}
use Rattle.aig_semantics.specs.declared.traces.Position.{Position}
use Rattle.aig_semantics.specs.declared.traces.Stimulus.{Stimulus}
use Rattle.aig_semantics.specs.Circuits.{Circuit}
use Rattle.aig_semantics.specs.Runs.{AgreesWith, IsInitial, MeetsConstraints}
use Rattle.aig_semantics.specs.Stimuli.{simulated, FitsCircuit, HasLasso}
use Rattle.stimulus.specs.declared.ends.ReplayFault.{ReplayFault}
use Rattle.stimulus.specs.declared.ends.ReplayFault.TheVariants.{Shape, Width, NotInitial, Constraint, NoFairLoop, NoProperty}

-- the values of the latches, and then those of the inputs at each position
abbrev pub items_of : Stimulus → List (List Bool)
items_of stimulus = stimulus.latches ∷ stimulus.inputs

-- how many values an item has to have
abbrev pub width_of : Circuit → ℕ → ℕ
width_of c zero = length c.latches
width_of c (suc position) = length c.inputs

-- the first item with another number of values
pub record IsFirstMisfit (c : Circuit) (stimulus : Stimulus) (item : ℕ) : Type 0 where
  pub inside : item < length (items_of stimulus)
  pub before : (n : ℕ) → n < item → length (slice_index_or (items_of stimulus) n []) ≡ width_of c n
  pub misfits : length (slice_index_or (items_of stimulus) item []) ≢ width_of c item

-- the value at this place agrees with its latch's reset
abbrev pub AgreesAt : Circuit → List Bool → ℕ → Type 0
AgreesAt c latches n = (latch : Latch) (value : Bool) → slice_get c.latches n ≡ Some latch → slice_get latches n ≡ Some value → AgreesWith latch.reset value

-- the first latch that may not begin with its value
pub record IsFirstWrong (c : Circuit) (latches : List Bool) (latch : ℕ) : Type 0 where
  pub inside : latch < length c.latches
  pub before : (n : ℕ) → n < latch → AgreesAt c latches n
  pub wrong : AgreesAt c latches latch → ⊥

-- the property is there, and the stimulus fits the circuit and begins with an initial state
pub record CanBegin (c : Circuit) (j : ℕ) (stimulus : Stimulus) : Type 0 where
  pub property : j < length c.justice
  pub fits : FitsCircuit c stimulus
  pub initial : IsInitial c stimulus.latches

-- the constraints are true at each of these positions
abbrev pub AreAllowed : Circuit → List Position → Type 0
AreAllowed c positions = All (MeetsConstraints c) positions

-- the first position where a constraint is false, with no lasso before it
pub record IsFirstForbidden (c : Circuit) (j : ℕ) (stimulus : Stimulus) (position : ℕ) : Type 0 where
  pub inside : position < length stimulus.inputs
  pub before : AreAllowed c (simulated c stimulus.latches (take position stimulus.inputs))
  pub forbidden : AreAllowed c (simulated c stimulus.latches (take (position + 1) stimulus.inputs)) → ⊥
  pub none : (k from : ℕ) → k ≤ position → HasLasso c j stimulus k from → ⊥

-- the constraints are true at every position, and there is no lasso
pub record HasNoLasso (c : Circuit) (j : ℕ) (stimulus : Stimulus) : Type 0 where
  pub allowed : AreAllowed c (simulated c stimulus.latches stimulus.inputs)
  pub none : (k from : ℕ) → HasLasso c j stimulus k from → ⊥

-- the first fault of a stimulus for property j
abbrev pub HasReplayFault : Circuit → ℕ → Stimulus → ReplayFault → Type 0
HasReplayFault c j stimulus NoProperty = length c.justice ≤ j
HasReplayFault c j stimulus (Width item) = (j < length c.justice) × IsFirstMisfit c stimulus item
HasReplayFault c j stimulus (NotInitial latch) = (j < length c.justice) × FitsCircuit c stimulus × IsFirstWrong c stimulus.latches latch
HasReplayFault c j stimulus (Constraint position) = CanBegin c j stimulus × IsFirstForbidden c j stimulus position
HasReplayFault c j stimulus NoFairLoop = CanBegin c j stimulus × HasNoLasso c j stimulus
HasReplayFault c j stimulus (Shape line) = ⊥
