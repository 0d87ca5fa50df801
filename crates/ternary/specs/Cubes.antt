-- What a lifted cube promises: cubes of states as in IC3 (Bradley, SAT-based model checking without unrolling, 2011),
-- lifted by ternary simulation (Eén, Mishchenko, Brayton, Efficient implementation of property directed reachability,
-- 2011). A literal of a cube has the number of a latch, from 0, as its variable.
use Rattle.std.specs.Prelude.{◌≡◌, ℕ, suc, ◌<◌, ◌==◌, Bool, true, List, [], ◌∷◌, ◌++◌, map, length, take, drop, IsTrue, if◌then◌else◌}
use Rattle.std.specs.List.{All, Any}
use Rattle.aig_semantics.specs.declared.traces.Position.{Position}
use Rattle.aig_semantics.specs.Circuits.{Circuit}
use Rattle.aig_semantics.specs.Runs.{position_of, literal_at}
use Rattle.proof_semantics.specs.declared.literals.Lit.{Lit}
use Rattle.proof_semantics.specs.Clauses.{cube_value, values_of}
use Rattle.ternary.specs.declared.values.Value3.{Value3}
use Rattle.ternary.specs.declared.values.Value3.TheVariants.{One, X}
use Rattle.ternary.specs.Values.{known, literal3_in}
use Rattle.ternary.specs.Simulation.{values3_below, simulation}

-- every literal of the cube is one of a latch
abbrev pub IsOverLatches : Circuit → List Lit → Type 0
IsOverLatches c cube = All (λ literal. literal.var < length c.latches) cube

-- the state lies in the cube: it makes every literal of the cube true
abbrev pub LiesIn : List Bool → List Lit → Type 0
LiesIn state cube = cube_value (values_of state) cube ≡ true

-- every literal of these is true at the position
abbrev pub MakesTrue : Circuit → Position → List ℕ → Type 0
MakesTrue c p keep = All (λ literal. IsTrue (literal_at c p literal)) keep

-- every state of the cube, with these inputs, makes the literals true
abbrev pub KeepsTrue : Circuit → List Bool → List ℕ → List Lit → Type 0
KeepsTrue c inputs keep cube =
    (state : List Bool) → length state ≡ length c.latches → LiesIn state cube
    → MakesTrue c (position_of state inputs) keep

-- the value that a cube tells of latch v: X where it has no literal of it
abbrev pub told_by : List Lit → ℕ → Value3
told_by [] v = X
told_by (literal ∷ cube) v = if literal.var == v then known literal.positive else told_by cube v

-- the ternary values of so many latches that a cube tells
abbrev pub state_of : ℕ → List Lit → List Value3
state_of n cube = values3_below n (told_by cube)

-- the cube without its literal at place k
abbrev pub without : ℕ → List Lit → List Lit
without k cube = take k cube ++ drop (suc k) cube

-- with these inputs, and of the latches what the cube tells, ternary simulation gives 1 for each of the literals
abbrev pub ShowsTrue : Circuit → List Bool → List ℕ → List Lit → Type 0
ShowsTrue c inputs keep cube =
    All (λ literal. literal3_in (simulation c (state_of (length c.latches) cube) (map known inputs)) literal ≡ One) keep

-- with these inputs, and of the latches what the cube tells, ternary simulation gives X for one of the literals
abbrev pub LeavesOpen : Circuit → List Bool → List ℕ → List Lit → Type 0
LeavesOpen c inputs keep cube =
    Any (λ literal. literal3_in (simulation c (state_of (length c.latches) cube) (map known inputs)) literal ≡ X) keep

-- with any one literal of the cube dropped, ternary simulation gives X for one of the literals
abbrev pub NeedsEachLiteral : Circuit → List Bool → List ℕ → List Lit → Type 0
NeedsEachLiteral c inputs keep cube = (k : ℕ) → k < length cube → LeavesOpen c inputs keep (without k cube)
