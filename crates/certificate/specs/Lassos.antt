-- The lasso that the stimulus of a good answer stands for.
use Rattle.std.specs.Prelude.{◌≡◌, ◌≤◌, ◌<◌, ℕ, List, length, take, Option, Some, Result, Ok, Err}
use Rattle.aig_semantics.specs.declared.traces.Stimulus.{Stimulus}
use Rattle.aig_semantics.specs.declared.traces.Lasso.{Lasso as LassoOf}
use Rattle.aig_semantics.specs.Circuits.{Circuit}
use Rattle.aig_semantics.specs.Stimuli.{StandsFor}
use Rattle.answer_lines.specs.Left.{most_bytes}
use Rattle.edge.specs.Told.{MayBe}
use Rattle.certificate.specs.declared.ends.Accepted.{Accepted}
use Rattle.certificate.specs.declared.ends.AnswerEnd.{AnswerEnd}
use Rattle.certificate.specs.declared.ends.Accepted.TheVariants.{Lasso, Holds}
use Rattle.certificate.specs.Answers.{HasStimulus}
use Rattle.certificate.specs.Reading.{State, Dotted}

-- so many positions of a stimulus, the last of which steps back to a place
abbrev pub lasso_of : Stimulus → ℕ → ℕ → LassoOf
lasso_of s positions from = record { start = s.latches; inputs = take positions s.inputs; from = from }

-- The text is a good answer for property n, and its stimulus stands for this lasso.
abbrev pub HasGoodLasso : Circuit → List ℕ → ℕ → LassoOf → Type 0
HasGoodLasso c text n lasso =
    (n < length c.justice) × (length text ≤ most_bytes)
    × (stimulus : Stimulus) × HasStimulus n stimulus text × StandsFor c n stimulus (length lasso.inputs) lasso.from
    × (lasso ≡ lasso_of stimulus (length lasso.inputs) lasso.from)

-- what is kept of an accepted answer that the shelf may hold: the lasso of its stimulus, with as many positions as were
-- accepted, the last of which steps back to the place that was accepted; of a certificate nothing is said here
abbrev pub KeepsLasso : Circuit → Option (List ℕ) → Accepted → Option LassoOf → Type 0
KeepsLasso c told (Lasso n positions from) kept =
    (text : List ℕ) × MayBe told text × (lasso : LassoOf) × (kept ≡ Some lasso) × HasGoodLasso c text n lasso
    × (length lasso.inputs ≡ positions) × (lasso.from ≡ from)
KeepsLasso c told (Holds n entries) kept = Unit {0}

-- if no stimulus is accepted, this is so
abbrev pub UnlessStimulus : Result Accepted AnswerEnd → Type 0 → Type 0
UnlessStimulus (Ok (Lasso n positions from)) P = Unit {0}
UnlessStimulus (Ok (Holds n entries)) P = P
UnlessStimulus (Err end) P = P

-- what is kept where the lines of an answer end in this state (scaffolding of inner functions)
abbrev pub IsLassoAtEnd : State → Accepted → Option LassoOf → Type 0
IsLassoAtEnd (Dotted n s) (Lasso property positions from) kept = kept ≡ Some (lasso_of s positions from)
IsLassoAtEnd _ _ kept = Unit {0}
