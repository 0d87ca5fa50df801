-- Closed sets of one clause (scaffolding): what it says no step of the arena leaves.
use Rattle.std.specs.Prelude.{◌≡◌, Bool, true, false, List, length}
use Rattle.aig_semantics.specs.declared.traces.Position.{Position}
use Rattle.aig_semantics.specs.Runs.{successor}
use Rattle.proof_semantics.specs.declared.literals.Lit.{Lit}
use Rattle.proof_semantics.specs.Clauses.{clause_value, values_of}
use Rattle.ic3_semantics.specs.declared.questions.Goal.{Goal}
use Rattle.ic3_semantics.specs.declared.questions.Goal.TheVariants as goals
use Rattle.ic3_semantics.specs.Searching.{Question}
use Rattle.ic3_semantics.specs.Stepping.{IsArenaStep, IsOver}
use Rattle.ic3_loops.specs.Sound.{has_one_of}

-- A clause over the latches with a literal of the starts, which the state breaks and no step of the arena leaves.
pub record IsSingle (q : Question) (starts : List Lit) (to : List Bool) (clause : List Lit) : Type 0 where
  pub over : IsOver (length q.circuit.latches) clause
  pub based : has_one_of starts clause ≡ true
  pub breaks : clause_value (values_of to) clause ≡ false
  pub kept : (p : Position) → IsArenaStep q p → clause_value (values_of p.latches) clause ≡ true
      → clause_value (values_of (successor q.circuit p)) clause ≡ true

-- the same, where the goal is a state
abbrev pub IsSingleOf : Question → List Lit → Goal → List Lit → Type 0
IsSingleOf q starts (goals.State to) clause = IsSingle q starts to.now clause
IsSingleOf q starts (goals.Literal literal avoid) clause = ⊥
