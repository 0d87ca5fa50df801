-- Positions, successors and runs, with constraints, resets, justice and fairness as in AIGER 1.9 (Biere, Heljanko,
-- Wieringa, 2011); a fair lasso as in Liveness Checking as Safety Checking (Biere, Artho, Schuppan, 2002).
use Rattle.std.specs.Prelude.{◌≡◌, ℕ, ◌-◌, ◌<◌, Bool, true, false, not, List, [], ◌∷◌, map, length, drop, Some, slice_get, IsTrue}
use Rattle.std.specs.List.{All, Any, AllZip}
use Rattle.aig_semantics.specs.declared.parts.Reset.{Reset}
use Rattle.aig_semantics.specs.declared.parts.Reset.TheVariants.{Zero, One, Free}
use Rattle.aig_semantics.specs.declared.traces.Position.{Position}
use Rattle.aig_semantics.specs.Literals.{literal_in}
use Rattle.aig_semantics.specs.Circuits.{Circuit, fair_literals}
use Rattle.aig_semantics.specs.Valuations.{valuation}

-- a position has a value for each latch and each input
pub record IsPosition (c : Circuit) (p : Position) : Type 0 where
  pub latches : length p.latches ≡ length c.latches
  pub inputs : length p.inputs ≡ length c.inputs

-- the position with these values
abbrev pub position_of : List Bool → List Bool → Position
position_of latches inputs = record { latches = latches; inputs = inputs }

abbrev pub valuation_at : Circuit → Position → List Bool
valuation_at c p = valuation c p.latches p.inputs

-- the value of a literal at a position
abbrev pub literal_at : Circuit → Position → ℕ → Bool
literal_at c p literal = literal_in (valuation_at c p) literal

-- the latches' next values
abbrev pub successor : Circuit → Position → List Bool
successor c p = map (λ latch. literal_at c p latch.next) c.latches

-- a position at which every constraint is true
pub record MeetsConstraints (c : Circuit) (p : Position) : Type 0 where
  pub position : IsPosition c p
  pub constraints : All (λ literal. IsTrue (literal_at c p literal)) c.constraints

-- the first position, if there is one, has these latches
abbrev pub StartsIn : List Bool → List Position → Type 0
StartsIn state [] = Unit {0}
StartsIn state (p ∷ run) = p.latches ≡ state

-- positions, possibly none, at which every constraint is true, and each one's successor is the latches of the next
abbrev pub IsRun : Circuit → List Position → Type 0
IsRun c [] = Unit {0}
IsRun c (p ∷ run) = MeetsConstraints c p × StartsIn (successor c p) run × IsRun c run

-- a latch with this reset may begin with the value
abbrev pub AgreesWith : Reset → Bool → Type 0
AgreesWith Zero value = value ≡ false
AgreesWith One value = value ≡ true
AgreesWith Free value = Unit {0}

-- the same as a test
abbrev pub agrees_with : Reset → Bool → Bool
agrees_with Zero value = not value
agrees_with One value = value
agrees_with Free value = true

-- one value for each latch, which it may begin with
abbrev pub IsInitial : Circuit → List Bool → Type 0
IsInitial c latches = AllZip (λ latch value. AgreesWith latch.reset value) c.latches latches

-- a run that is empty or begins with an initial state
abbrev pub IsInitialRun : Circuit → List Position → Type 0
IsInitialRun c [] = Unit {0}
IsInitialRun c (p ∷ run) = IsInitial c p.latches × IsRun c (p ∷ run)

-- the last position's successor is the state at place `from`, counted from 0
pub record ClosesAt (c : Circuit) (run : List Position) (from : ℕ) : Type 0 where
  pub first : Position
  pub last : Position
  pub is_first : slice_get run from ≡ Some first
  pub is_last : slice_get run (length run - 1) ≡ Some last
  pub closes : successor c last ≡ first.latches

-- each literal of property j and each fairness literal is true at some of these positions
abbrev pub MeetsFairness : Circuit → ℕ → List Position → Type 0
MeetsFairness c j positions = All (λ literal. Any (λ p. IsTrue (literal_at c p literal)) positions) (fair_literals c j)

-- An initial run whose last position steps back to place `from`, with each literal of property j and each fairness
-- literal true at some position from there on.
pub record IsFairLasso (c : Circuit) (j : ℕ) (run : List Position) (from : ℕ) : Type 0 where
  pub property : j < length c.justice
  pub initial : IsInitialRun c run
  pub inside : from < length run
  pub closes : ClosesAt c run from
  pub fair : MeetsFairness c j (drop from run)
