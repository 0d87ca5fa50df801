-- Texts about the rounds of a property, by their lines: that no initial run has k rounds, which entries of the property's
-- monitor and a refutation show, or that a run has them. After k-liveness (Claessen, Sörensson, A Liveness Checking Algorithm
-- that Counts, FMCAD 2012); a run is spelled as in the witnesses of AIGER 1.9 (Biere, Heljanko, Wieringa, 2011). The format is
-- this program's own.
use Rattle.std.specs.Prelude.{◌≡◌, ◌^◌, ◌<◌, ◌≤◌, ℕ, Bool, false, List, [], ◌∷◌, ◌++◌, decimal, codes}
use Rattle.aig_semantics.specs.declared.traces.Stimulus.{Stimulus}
use Rattle.certificate.specs.Lines.{kept_in, bare}
use Rattle.certificate_texts.specs.declared.certificates.Certificate.{Certificate}
use Rattle.certificate_texts.specs.Certificates.{lines_of_certificate}
use Rattle.certificate_texts.specs.Writing.{property_line}
use Rattle.certificate.specs.Answers.{Spells}
use Rattle.certificate.specs.Reading.{opens_rounds}
use Rattle.round_answers.specs.declared.limits.TheConstants.{MAX_ROUNDS}

-- so many rounds may be asked for
pub record MayBeAsked (k : ℕ) : Type 0 where
  pub some : 1 ≤ k
  pub few : k ≤ MAX_ROUNDS

-- the first line of a text about k rounds
abbrev pub rounds_line : ℕ → List ℕ
rounds_line k = codes "rounds " ++ decimal k

-- the lines are that line, the line of property n, and the others
abbrev pub Opens : ℕ → ℕ → List (List ℕ) → List (List ℕ) → Type 0
Opens k n lines others = (n < 2 ^ 63) × (lines ≡ rounds_line k ∷ property_line n ∷ others)

-- fewer: behind them stands this certificate, from its version on
abbrev pub HasCertificate : ℕ → ℕ → Certificate → List ℕ → Type 0
HasCertificate k n certificate text = Opens k n (bare (kept_in text)) (lines_of_certificate certificate)

-- reached: behind them stand the line run, the values of the latches and of the inputs at each position, and a dot
abbrev pub HasRun : ℕ → ℕ → Stimulus → List ℕ → Type 0
HasRun k n stimulus text = (others : List (List ℕ)) × Opens k n (bare (kept_in text)) (codes "run" ∷ others) × Spells stimulus others

-- the first of these lines begins with the word rounds: the text is judged as one about rounds, else as an answer
abbrev pub is_about_rounds : List (List ℕ) → Bool
is_about_rounds [] = false
is_about_rounds (line ∷ lines) = opens_rounds line
