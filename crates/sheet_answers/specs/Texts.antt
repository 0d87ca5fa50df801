-- Sheets of which the text is held, by their lines.
use Rattle.std.specs.Prelude.{◌≡◌, ℕ, List, length, Result, Ok, Err}
use Rattle.aig_semantics.specs.Circuits.{Circuit}
use Rattle.certificate.specs.Lines.{kept_in, bare}
use Rattle.sheet_answers.specs.declared.ends.JudgeEnd.{JudgeEnd}
use Rattle.sheet_answers.specs.declared.texts.GoodSheet.{GoodSheet}
use Rattle.sheet_answers.specs.Sheets.{Sheet, IsTextOf}
use Rattle.sheet_answers.specs.Ends.{Decides}

-- The text is a good sheet with so many entries, and these are its lines that are not skipped.
abbrev pub HasLines : Circuit → List ℕ → GoodSheet → Type 0
HasLines c text found =
    (sheet : Sheet) × IsTextOf c sheet text × (found.lines ≡ bare (kept_in text)) × (found.entries ≡ length sheet.entries)

-- the text, which opens a sheet, decides this end: it is a good one with these lines, or is refused as its check refuses it
abbrev pub DecidesLines : Circuit → List ℕ → Result GoodSheet JudgeEnd → Type 0
DecidesLines c text (Ok found) = HasLines c text found
DecidesLines c text (Err end) = Decides c text (Err end)
