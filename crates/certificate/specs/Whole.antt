-- Scaffolding of inner functions: what is known of an answer that was read and accepted, with its lines.
use Rattle.std.specs.Prelude.{◌≡◌, ℕ, List, Option, Result, Ok, Err}
use Rattle.aig_semantics.specs.declared.traces.Lasso.{Lasso as LassoOf}
use Rattle.aig_semantics.specs.Circuits.{Circuit}
use Rattle.edge.specs.Told.{MayBe}
use Rattle.certificate.specs.declared.ends.Accepted.{Accepted}
use Rattle.certificate.specs.declared.ends.AnswerEnd.{AnswerEnd}
use Rattle.certificate.specs.declared.ends.AnswerEnd.TheVariants as ends
use Rattle.certificate.specs.declared.loaded.Loaded.{Loaded}
use Rattle.certificate.specs.Lines.{kept_in, kept_readable, bare}
use Rattle.certificate.specs.Answers.{IsGood}
use Rattle.certificate.specs.Reading.{State, Status, read_lines}
use Rattle.certificate.specs.Lassos.{IsLassoAtEnd}
use Rattle.certificate.specs.Loading.{accepted_of}

-- the text that the shelf may hold is good for this, its lines are these and end in the state, and of a stimulus the lasso
-- is kept
abbrev pub IsReadWhole : Circuit → Option (List ℕ) → Accepted → List (List ℕ) → State → Option LassoOf → Type 0
IsReadWhole c told accepted lines s kept =
    (text : List ℕ) × MayBe told text × IsGood c text accepted × (lines ≡ bare (kept_in text))
    × (read_lines c Status (kept_readable text) ≡ Ok s) × IsLassoAtEnd s accepted kept

-- it ended so, and where it was accepted it is held, unless memory was refused
abbrev pub IsLoadedAs : Result Accepted AnswerEnd → Result Loaded AnswerEnd → Type 0
IsLoadedAs (Ok accepted) (Ok loaded) = accepted_of loaded ≡ accepted
IsLoadedAs (Ok accepted) (Err end) = end ≡ ends.Memory
IsLoadedAs (Err end) (Ok loaded) = ⊥
IsLoadedAs (Err end) (Err other) = other ≡ end

-- this is held, or memory was refused
abbrev pub GivesLoaded : Loaded → Result Loaded AnswerEnd → Type 0
GivesLoaded loaded (Ok found) = found ≡ loaded
GivesLoaded loaded (Err end) = end ≡ ends.Memory
