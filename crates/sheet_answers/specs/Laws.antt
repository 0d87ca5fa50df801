-- The laws of sheets.
use Rattle.std.specs.Prelude.{ℕ, ◌≤◌, List, length}
use Rattle.aig_semantics.specs.Circuits.{Circuit}
use Rattle.answer_lines.specs.Left.{most_bytes}
use Rattle.entry.specs.CheckedEntries.{CheckedEntry}
use Rattle.sheet_answers.specs.Sheets.{Counts, IsSheetWith, ShowsSheet, Sheet, Block, IsGoodSheet, ShowBlocks, none, and_all}
use Rattle.sheet_answers.specs.Writing.{sheet_text, IsSo}

-- A good sheet is true: what each of its blocks says of its property is so.
abbrev pub GoodSheetsAreTrue : Circuit → Type 0
GoodSheetsAreTrue c = (sheet : Sheet) → IsGoodSheet c sheet → ShowBlocks c 0 sheet.blocks

-- a text that is one shows it
abbrev pub SheetsAreTrue : Circuit → Type 0
SheetsAreTrue c = (text : List ℕ) (counts : Counts) (entries : ℕ) → IsSheetWith c text counts entries → ShowsSheet c counts

-- What is written of proved entries and true blocks over them is a good sheet, with as many blocks of each kind, where it is
-- within the limit.
abbrev pub WrittenSheetsAreGood : Circuit → Type 0
WrittenSheetsAreGood c =
    (list : List CheckedEntry) (blocks : List Block) → IsSo c list blocks → length (sheet_text list blocks) ≤ most_bytes
    → IsSheetWith c (sheet_text list blocks) (and_all none blocks) (length list)
