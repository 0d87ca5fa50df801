-- How `solve` and `shortest` spell an answer.
use Rattle.std.specs.Prelude.{◌≡◌, ℕ, List, length}
use Rattle.aig_semantics.specs.declared.traces.Lasso.{Lasso}
use Rattle.aig_semantics.specs.declared.traces.Stimulus.{Stimulus}
use Rattle.aig_semantics.specs.Circuits.{Circuit}
use Rattle.aig_semantics.specs.Stimuli.{StandsFor}
use Rattle.stimulus.specs.Texts.{answer_text}
use Rattle.certificate_lines.specs.declared.words.Version.TheVariants.{Two}
use Rattle.certificate.specs.declared.ends.Accepted.{Accepted}
use Rattle.certificate.specs.declared.ends.Accepted.TheVariants as accepted
use Rattle.certificate_texts.specs.declared.certificates.Certificate.{Certificate}
use Rattle.certificate_texts.specs.Writing.{certificate_text}

-- The text is as `solve` spells it. Of a stimulus all positions are needed: it stands for a fair lasso of so many, and
-- none of its prefixes with fewer has a fair lasso of the property. A certificate is of version 2.
abbrev pub IsWrittenAs : Circuit → List ℕ → Accepted → Type 0
IsWrittenAs c text (accepted.Lasso n positions from) =
    (stimulus : Stimulus) × (text ≡ answer_text n stimulus) × (length stimulus.inputs ≡ positions) × StandsFor c n stimulus positions from
IsWrittenAs c text (accepted.Holds n entries) =
    (certificate : Certificate) × (text ≡ certificate_text n certificate) × (length certificate.entries ≡ entries) × (certificate.version ≡ Two)
