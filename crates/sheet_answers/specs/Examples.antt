-- Small circuits and sheets of them, for worked rows.
use Rattle.std.specs.Prelude.{◌≡◌, ℕ, Bool, true, false, List, [], ◌∷◌, ◌++◌, None, codes}
use Rattle.aig_semantics.specs.declared.parts.Latch.{Latch}
use Rattle.aig_semantics.specs.declared.parts.Reset.TheVariants.{Zero}
use Rattle.aig_semantics.specs.declared.traces.Stimulus.{Stimulus}
use Rattle.aig_semantics.specs.Circuits.{Circuit}
use Rattle.certificate.specs.Lines.{kept_from}
use Rattle.sheet_answers.specs.Reading.{Replays, Stepped, First, read_lines}

-- a latch that toggles, with a property that wants it true, and one of the literal that is false
abbrev pub two_wishes : Circuit
two_wishes = record {
  max = 1;
  inputs = [];
  latches = record { var = 1; next = 3; reset = Zero } ∷ [];
  gates = [];
  constraints = [];
  justice = (2 ∷ []) ∷ (0 ∷ []) ∷ [];
  fairness = [];
}

-- the same without properties
abbrev pub no_property : Circuit
no_property = record two_wishes { justice = [] }

-- two positions without inputs, from the latch at 0
abbrev pub two_positions : Stimulus
two_positions = record { latches = false ∷ []; inputs = [] ∷ [] ∷ [] }

-- these lines, read from the first on
abbrev pub read : Circuit → Replays → List (List ℕ) → Stepped
read c replays lines = read_lines c replays First (kept_from 1 lines)

abbrev pub all_two : List (List ℕ)
all_two = codes "all 2" ∷ codes "version 2" ∷ []

abbrev pub first_lasso : List (List ℕ)
first_lasso = codes "lasso j0" ∷ codes "0" ∷ [] ∷ [] ∷ codes "." ∷ []

abbrev pub second_holds : List (List ℕ)
second_holds = codes "holds j1" ∷ codes "refute 0 1" ∷ [] ∷ codes "5 0 1 4 0" ∷ []
