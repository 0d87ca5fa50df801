-- The laws of the definitions: of arenas (FAIR: Bradley, Somenzi, Hassan, Zhang, 2011), and of closed sets (IC3:
-- Bradley, 2011).
use Rattle.std.specs.Prelude.{◌≡◌, Bool, true, List}
use Rattle.aig_semantics.specs.declared.traces.Position.{Position}
use Rattle.proof_semantics.specs.declared.literals.Lit.{Lit}
use Rattle.fair_semantics.specs.declared.entries.Use.{Use}
use Rattle.fair_semantics.specs.Entries.{Entry}
use Rattle.ic3_semantics.specs.declared.questions.Start.{Start}
use Rattle.ic3_semantics.specs.declared.questions.Goal.{Goal}
use Rattle.ic3_semantics.specs.Arenas.{allows_step, in_arena}
use Rattle.ic3_semantics.specs.Searching.{Question, IsPath, Separates, closed_entry}

-- From a state of the arena the entries allow the steps that stay in it, and no others.
abbrev pub StepsKeepToArena : Type 0
StepsKeepToArena =
    (view : List Entry) (start : Start) (s t : List Bool)
    → in_arena view start s ≡ true → allows_step view start s t ≡ in_arena view start t

-- Where an entry separates the start from the goal, no path leads there.
abbrev pub SeparatedIsNotReached : Type 0
SeparatedIsNotReached =
    (q : Question) (goal : Goal) (clauses : List (List Lit)) (uses : List Use) (positions : List Position)
    → Separates q goal (closed_entry q.start clauses uses) → IsPath q goal positions → ⊥
