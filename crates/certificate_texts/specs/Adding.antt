-- Lines that are added to a text.
use Rattle.std.specs.Prelude.{◌≡◌, ℕ, List, [], ◌∷◌, ◌++◌, codes}
use Rattle.text_grammar.specs.Lines.{ended_lines}
use Rattle.certificate_lines.specs.declared.words.Version.TheVariants.{Two}
use Rattle.certificate_lines.specs.declared.words.WordLine.TheVariants as lines
use Rattle.certificate_lines.specs.Words.{word_line_text}
use Rattle.fair_semantics.specs.declared.entries.Use.{Use}
use Rattle.certificate_texts.specs.Certificates.{refutation_lines}
use Rattle.certificate_texts.specs.Writing.{property_line}

-- the text has these lines more, each with its line feed
abbrev pub Adds : List ℕ → List ℕ → List (List ℕ) → Type 0
Adds old new lines = new ≡ old ++ ended_lines lines

-- the lines in front of the entries
abbrev pub head_lines : ℕ → List (List ℕ)
head_lines n = codes "0" ∷ property_line n ∷ word_line_text (lines.Version Two) ∷ []

-- those behind them
abbrev pub last_lines : List Use → List (List ℕ) → List (List ℕ)
last_lines uses proof =
    refutation_lines (record { version = Two; entries = []; uses = uses; proof = proof }) ++ word_line_text lines.End ∷ []
