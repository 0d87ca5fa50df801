-- The laws of answers.
use Rattle.std.specs.Prelude.{◌≡◌, ◌≢◌, ◌⊎◌, ◌↔◌, ◌≤◌, ◌<◌, ◌^◌, ◌++◌, ℕ, List, length, All}
use Rattle.text_grammar.specs.Lines.{ended_lines}
use Rattle.text_grammar.specs.Pieces.{Lacks}
use Rattle.aig_semantics.specs.declared.traces.Stimulus.{Stimulus}
use Rattle.aig_semantics.specs.Circuits.{Circuit}
use Rattle.aig_semantics.specs.Stimuli.{StandsFor}
use Rattle.answer_lines.specs.Left.{most_bytes}
use Rattle.stimulus.specs.declared.ends.ReplayFault.{ReplayFault}
use Rattle.stimulus.specs.declared.ends.ReplayFault.TheVariants as replays
use Rattle.stimulus.specs.Texts.{answer_text}
use Rattle.entry.specs.declared.refutations.Refutation.{Refutation}
use Rattle.entry.specs.CheckedEntries.{CheckedEntry}
use Rattle.certificate.specs.declared.ends.Accepted.{Accepted}
use Rattle.certificate.specs.declared.ends.Accepted.TheVariants.{Lasso, Holds}
use Rattle.certificate.specs.declared.ends.AnswerFault.{AnswerFault}
use Rattle.certificate.specs.declared.ends.AnswerFault.TheVariants.{Shape, Replay}
use Rattle.certificate.specs.Lines.{end_of}
use Rattle.certificate.specs.Answers.{HasCertificate, IsGood, Shows}
use Rattle.certificate.specs.Ends.{IsRefused, ReadsWell}
use Rattle.certificate_texts.specs.Writing.{certificate_text}
use Rattle.certificate.specs.Writing.{certificate_of, IsRefutedBy}
use Rattle.certificate.specs.declared.loaded.Loaded.{Loaded}
use Rattle.certificate.specs.Loading.{HoldsAnswer, accepted_of, printed_text, printed_again}

-- a text is read as a good answer exactly where it is one
abbrev pub ReadsGood : Circuit → Type 0
ReadsGood c = (text : List ℕ) (accepted : Accepted) → ReadsWell c text accepted ↔ IsGood c text accepted

-- a good answer is true
abbrev pub GoodIsTrue : Circuit → Type 0
GoodIsTrue c = (text : List ℕ) (accepted : Accepted) → IsGood c text accepted → Shows c accepted

-- No property has a good stimulus and a good certificate: two good answers for it have the same status.
abbrev pub VerdictsAgree : Circuit → Type 0
VerdictsAgree c =
    (text other : List ℕ) (n positions from entries : ℕ)
    → IsGood c text (Lasso n positions from) → IsGood c other (Holds n entries) → ⊥

-- any text is good for something, or has a fault
abbrev pub EachHasEnd : Circuit → Type 0
EachHasEnd c = (text : List ℕ) → ((accepted : Accepted) × IsGood c text accepted) ⊎ ((fault : AnswerFault) × IsRefused c text fault)

-- it is good for one thing at most
abbrev pub OneIsGood : Circuit → Type 0
OneIsGood c = (text : List ℕ) (a b : Accepted) → IsGood c text a → IsGood c text b → a ≡ b

-- and has no fault then
abbrev pub GoodHasNoFault : Circuit → Type 0
GoodHasNoFault c = (text : List ℕ) (accepted : Accepted) (fault : AnswerFault) → IsGood c text accepted → IsRefused c text fault → ⊥

-- a text has one fault at most
abbrev pub OneFault : Circuit → Type 0
OneFault c = (text : List ℕ) (f g : AnswerFault) → IsRefused c text f → IsRefused c text g → f ≡ g

-- The fault is one of the text's end: a line is still wanted there, or the stimulus, which is whole, is no fair lasso.
abbrev pub IsOfTheEnd : List ℕ → AnswerFault → Type 0
IsOfTheEnd text (Shape line) = line ≡ end_of text
IsOfTheEnd text (Replay fault) = Unit {0}
IsOfTheEnd text _ = ⊥

-- Where lines, each with its line feed, have a fault, it is one of their end, or each text that begins with them has it.
abbrev pub FaultsStay : Circuit → Type 0
FaultsStay c =
    (lines : List (List ℕ)) (rest : List ℕ) (fault : AnswerFault) → All (λ line. Lacks line 10) lines
    → IsRefused c (ended_lines lines) fault
    → IsOfTheEnd (ended_lines lines) fault ⊎ IsRefused c (ended_lines lines ++ rest) fault

-- An answer is never refused for the form or the property of its stimulus: its own lines are judged before.
abbrev pub JudgedBefore : Circuit → Type 0
JudgedBefore c =
    (text : List ℕ) (fault : ReplayFault) → IsRefused c text (Replay fault)
    → (fault ≢ replays.NoProperty) × ((line : ℕ) → fault ≢ replays.Shape line)

-- what is written of a stimulus that stands for a lasso is a good answer, where number and text are within the limits
abbrev pub WrittenIsGood : Circuit → Type 0
WrittenIsGood c =
    (n : ℕ) (s : Stimulus) (positions from : ℕ) → n < 2 ^ 63 → StandsFor c n s positions from → length (answer_text n s) ≤ most_bytes
    → IsGood c (answer_text n s) (Lasso n positions from)

-- What is written of entries and a refutation that refute a property has their certificate, and is a good answer, where
-- it is within the limit.
abbrev pub WrittenCertificatesAreGood : Circuit → Type 0
WrittenCertificatesAreGood c =
    (n : ℕ) (list : List CheckedEntry) (refutation : Refutation)
    → IsRefutedBy c n list refutation → length (certificate_text n (certificate_of list refutation)) ≤ most_bytes
    → HasCertificate n (certificate_of list refutation) (certificate_text n (certificate_of list refutation))
    × IsGood c (certificate_text n (certificate_of list refutation)) (Holds n (length list))

-- What is held of a good answer makes that text good: it is good for what is accepted where this is held.
abbrev pub HeldIsGood : Circuit → Type 0
HeldIsGood c = (text : List ℕ) (loaded : Loaded) → HoldsAnswer c text loaded → IsGood c text (accepted_of loaded)

-- What is printed of an answer that is held has the same, but for the version of a certificate, and is good for the same,
-- where it is within the limit.
abbrev pub PrintedHoldsTheSame : Circuit → Type 0
PrintedHoldsTheSame c =
    (text : List ℕ) (loaded : Loaded) → HoldsAnswer c text loaded → length (printed_text loaded) ≤ most_bytes
    → HoldsAnswer c (printed_text loaded) (printed_again loaded)
