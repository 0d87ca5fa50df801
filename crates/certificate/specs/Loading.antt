-- What is held of an answer that was accepted, and how it is printed.
use Rattle.std.specs.Prelude.{◌≡◌, ◌≤◌, ◌<◌, ℕ, List, length, Option, Result, Ok, Err}
use Rattle.aig_semantics.specs.Circuits.{Circuit}
use Rattle.aig_semantics.specs.Stimuli.{StandsFor}
use Rattle.answer_lines.specs.Left.{most_bytes}
use Rattle.edge.specs.Told.{MayBe}
use Rattle.stimulus.specs.Texts.{answer_text}
use Rattle.certificate_texts.specs.Writing.{certificate_text, in_version_two}
use Rattle.certificate.specs.declared.ends.Accepted.{Accepted}
use Rattle.certificate.specs.declared.ends.Accepted.TheVariants as accepted
use Rattle.certificate.specs.declared.ends.AnswerEnd.{AnswerEnd}
use Rattle.certificate.specs.declared.loaded.Loaded.{Loaded}
use Rattle.certificate.specs.declared.loaded.Loaded.TheVariants.{Lasso, Holds}
use Rattle.certificate.specs.Certificates.{IsGoodCertificate}
use Rattle.certificate.specs.Answers.{HasStimulus, HasCertificate}
use Rattle.certificate.specs.Lassos.{lasso_of}

-- The text is a good answer, and this is what it has: its property; its stimulus, and the lasso that it stands for; or its
-- certificate.
abbrev pub HoldsAnswer : Circuit → List ℕ → Loaded → Type 0
HoldsAnswer c text (Lasso n stimulus lasso) =
    (n < length c.justice) × (length text ≤ most_bytes)
    × HasStimulus n stimulus text × StandsFor c n stimulus (length lasso.inputs) lasso.from
    × (lasso ≡ lasso_of stimulus (length lasso.inputs) lasso.from)
HoldsAnswer c text (Holds n certificate) =
    (n < length c.justice) × (length text ≤ most_bytes) × HasCertificate n certificate text × IsGoodCertificate c n certificate

-- some good answer of the circuit has it
abbrev pub IsHeld : Circuit → Loaded → Type 0
IsHeld c loaded = (text : List ℕ) × HoldsAnswer c text loaded

-- the text that the shelf may hold has it
abbrev pub IsHeldOf : Circuit → Option (List ℕ) → Loaded → Type 0
IsHeldOf c told loaded = (text : List ℕ) × MayBe told text × HoldsAnswer c text loaded

-- what is accepted where this is held
abbrev pub accepted_of : Loaded → Accepted
accepted_of (Lasso n stimulus lasso) = accepted.Lasso n (length lasso.inputs) lasso.from
accepted_of (Holds n certificate) = accepted.Holds n (length certificate.entries)

-- how the check of the answer ends
abbrev pub accepted_in : Result Loaded AnswerEnd → Result Accepted AnswerEnd
accepted_in (Ok loaded) = Ok (accepted_of loaded)
accepted_in (Err end) = Err end

-- The text that is printed: that of the stimulus, with all of its positions, or of the certificate in version 2, with its
-- entries and the lines of its proofs as they are; nothing else.
abbrev pub printed_text : Loaded → List ℕ
printed_text (Lasso n stimulus lasso) = answer_text n stimulus
printed_text (Holds n certificate) = certificate_text n (in_version_two certificate)

-- what is then held of it
abbrev pub printed_again : Loaded → Loaded
printed_again (Lasso n stimulus lasso) = Lasso n stimulus lasso
printed_again (Holds n certificate) = Holds n (in_version_two certificate)
