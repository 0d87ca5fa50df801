-- Which texts about rounds are good, and what they show.
use Rattle.std.specs.Prelude.{◌≡◌, ◌≤◌, ◌<◌, ◌-◌, ℕ, Bool, true, false, All, List, [], map, length}
use Rattle.aig_semantics.specs.declared.traces.Position.{Position}
use Rattle.aig_semantics.specs.declared.traces.Stimulus.{Stimulus}
use Rattle.aig_semantics.specs.Circuits.{Circuit}
use Rattle.aig_semantics.specs.Runs.{IsInitial, IsInitialRun}
use Rattle.aig_semantics.specs.Stimuli.{simulated, FitsCircuit}
use Rattle.proof_semantics.specs.declared.literals.Lit.{Lit}
use Rattle.fair_semantics.specs.declared.entries.Kind.TheVariants.{Reach}
use Rattle.fair_semantics.specs.Entries.{Entry}
use Rattle.fair_semantics.specs.Rounds.{HasRounds}
use Rattle.cnf_unroll.specs.Numbers.{plus}
use Rattle.answer_lines.specs.Left.{most_bytes}
use Rattle.certificate_lines.specs.declared.words.Version.TheVariants.{Two}
use Rattle.certificate_lines.specs.Words.{HasNumbers}
use Rattle.certificate_lines.specs.Uses.{MayStand, written}
use Rattle.certificate.specs.declared.limits.TheConstants.{MAX_ENTRIES}
use Rattle.certificate.specs.declared.ends.Accepted.{Accepted}
use Rattle.certificate.specs.Lines.{kept_in, bare}
use Rattle.certificate_texts.specs.declared.certificates.Certificate.{Certificate}
use Rattle.certificate_texts.specs.Certificates.{refuting_line, CanBeWritten}
use Rattle.certificate.specs.Certificates.{AreProvedBehind}
use Rattle.certificate.specs.Answers.{IsGood, Shows}
use Rattle.certificate.specs.Refuted.{IsStateRefutation}
use Rattle.round_monitor.specs.Counting.{HasRunOfRounds}
use Rattle.round_monitor.specs.Ends.{IsMonitorable}
use Rattle.round_monitor.specs.Monitor.{monitor_circuit}
use Rattle.round_answers.specs.declared.ends.Judged.{Judged}
use Rattle.round_answers.specs.declared.ends.Judged.TheVariants.{Answer, Rounds}
use Rattle.round_answers.specs.Texts.{MayBeAsked, HasCertificate, HasRun, is_about_rounds}

-- the last latch is true: of a monitor, its last counter, and so k rounds have ended
abbrev pub last_latch : Circuit → Lit
last_latch t = plus (length t.latches - 1)

-- A certificate of version 2, of reach entries alone, each proved behind those before it on this circuit, and over them a
-- good refutation of the states in which the last latch is true.
pub record NeverFull (t : Circuit) (certificate : Certificate) : Type 0 where
  pub version : certificate.version ≡ Two
  pub reach : All (λ e. e.kind ≡ Reach) certificate.entries
  pub form : All (CanBeWritten Two) certificate.entries
  pub sizes : HasNumbers (refuting_line certificate)
  pub signs : All (MayStand Two) (map written certificate.uses)
  pub few : length certificate.entries ≤ MAX_ENTRIES
  pub entries : List Entry
  pub proved : AreProvedBehind t [] certificate.entries entries
  pub refuted : IsStateRefutation t (last_latch t) entries certificate.uses certificate.proof

-- fewer than k rounds: such a certificate of the property's monitor for k rounds
abbrev pub IsFewer : Circuit → ℕ → ℕ → Certificate → Type 0
IsFewer c k n certificate = NeverFull (monitor_circuit c n k) certificate

-- k rounds are reached: the stimulus fits the circuit, begins with an initial state, and its positions are a run that has them
pub record IsReached (c : Circuit) (k n : ℕ) (s : Stimulus) : Type 0 where
  pub fits : FitsCircuit c s
  pub initial : IsInitial c s.latches
  pub run : IsInitialRun c (simulated c s.latches s.inputs)
  pub rounds : HasRounds c n k (simulated c s.latches s.inputs)

-- The text, no longer than the limit, is a good one about k rounds of property n, which has a monitor: an initial run has
-- them, or none has.
abbrev pub IsGoodAbout : Circuit → List ℕ → ℕ → ℕ → Bool → Type 0
IsGoodAbout c text n k false =
    MayBeAsked k × IsMonitorable c n k × (length text ≤ most_bytes)
    × (certificate : Certificate) × HasCertificate k n certificate text × IsFewer c k n certificate
IsGoodAbout c text n k true =
    MayBeAsked k × IsMonitorable c n k × (length text ≤ most_bytes)
    × (stimulus : Stimulus) × HasRun k n stimulus text × IsReached c k n stimulus

-- The text is good for this: as one about rounds, or, where its first line does not begin so, as an answer.
abbrev pub IsGoodText : Circuit → List ℕ → Judged → Type 0
IsGoodText c text (Answer accepted) = (is_about_rounds (bare (kept_in text)) ≡ false) × IsGood c text accepted
IsGoodText c text (Rounds n k reached) = IsGoodAbout c text n k reached

-- What it shows: no initial run has k rounds of property n, or more; or some has.
abbrev pub ShowsRounds : Circuit → ℕ → ℕ → Bool → Type 0
ShowsRounds c n k false = (run : List Position) (m : ℕ) → IsInitialRun c run → HasRounds c n m run → m < k
ShowsRounds c n k true = HasRunOfRounds c n k

abbrev pub ShowsText : Circuit → Judged → Type 0
ShowsText c (Answer accepted) = Shows c accepted
ShowsText c (Rounds n k reached) = ShowsRounds c n k reached
