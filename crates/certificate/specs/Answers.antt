-- Good answers: a stimulus, after the witnesses of AIGER 1.9 (Biere, Heljanko, Wieringa, 2011), that stands for a fair
-- lasso, or a certificate that there is none.
use Rattle.std.specs.Prelude.{◌≡◌, ◌^◌, ◌≤◌, ◌<◌, ℕ, List, [], ◌∷◌, ◌++◌, length, codes}
use Rattle.aig_semantics.specs.declared.traces.Position.{Position}
use Rattle.aig_semantics.specs.declared.traces.Stimulus.{Stimulus}
use Rattle.aig_semantics.specs.Circuits.{Circuit}
use Rattle.aig_semantics.specs.Runs.{IsFairLasso}
use Rattle.aig_semantics.specs.Stimuli.{StandsFor}
use Rattle.fair_semantics.specs.Rounds.{HasFewRounds}
use Rattle.answer_lines.specs.Left.{most_bytes}
use Rattle.stimulus.specs.Texts.{row_values, present}
use Rattle.certificate_texts.specs.Writing.{property_line}
use Rattle.certificate.specs.declared.ends.Accepted.{Accepted}
use Rattle.certificate.specs.declared.ends.Accepted.TheVariants.{Lasso, Holds}
use Rattle.certificate.specs.Lines.{kept_in, bare}
use Rattle.certificate_texts.specs.declared.certificates.Certificate.{Certificate}
use Rattle.certificate_texts.specs.Certificates.{lines_of_certificate}
use Rattle.certificate.specs.Certificates.{IsGoodCertificate}

-- the lines are the status, the line of property n, and the others
abbrev pub Opens : List ℕ → ℕ → List (List ℕ) → List (List ℕ) → Type 0
Opens status n lines others = (n < 2 ^ 63) × (lines ≡ status ∷ property_line n ∷ others)

-- the lines are the values of the latches and of the inputs at each position, and a dot
abbrev pub Spells : Stimulus → List (List ℕ) → Type 0
Spells stimulus lines =
    (rows : List (List ℕ)) × (lines ≡ rows ++ codes "." ∷ []) × (row_values rows ≡ present (stimulus.latches ∷ stimulus.inputs))

-- the text is an answer of status 1 with this stimulus for property n
abbrev pub HasStimulus : ℕ → Stimulus → List ℕ → Type 0
HasStimulus n stimulus text = (others : List (List ℕ)) × Opens (codes "1") n (bare (kept_in text)) others × Spells stimulus others

-- the text is an answer of status 0 with this certificate for property n
abbrev pub HasCertificate : ℕ → Certificate → List ℕ → Type 0
HasCertificate n certificate text = Opens (codes "0") n (bare (kept_in text)) (lines_of_certificate certificate)

-- The text, no longer than the limit, is a good answer for a property of the circuit: its stimulus stands for a fair
-- lasso of so many positions that goes back to a place, or its certificate, of so many entries, is good.
abbrev pub IsGood : Circuit → List ℕ → Accepted → Type 0
IsGood c text (Lasso n positions from) =
    (n < length c.justice) × (length text ≤ most_bytes)
    × (stimulus : Stimulus) × HasStimulus n stimulus text × StandsFor c n stimulus positions from
IsGood c text (Holds n entries) =
    (n < length c.justice) × (length text ≤ most_bytes)
    × (certificate : Certificate) × HasCertificate n certificate text × IsGoodCertificate c n certificate × (entries ≡ length certificate.entries)

-- What an accepted answer shows of the circuit: a fair lasso of the property; or that no initial run and place form one, and
-- so that no initial run of any length has more rounds of the property than there are states of the latches.
abbrev pub Shows : Circuit → Accepted → Type 0
Shows c (Lasso n positions from) = (run : List Position) × (length run ≡ positions) × IsFairLasso c n run from
Shows c (Holds n entries) = ((run : List Position) (from : ℕ) → IsFairLasso c n run from → ⊥) × HasFewRounds c n
