-- Sheets: one list of entries, and for each property of a circuit, in their order, a block that says what is known of it: a
-- stimulus for a fair lasso, a refutation over the entries, or nothing. Entries and refutations are those of certificates, a
-- stimulus is spelled as in the witnesses of AIGER 1.9 (Biere, Heljanko, Wieringa, 2011); the format is this program's own.
use Rattle.std.specs.Prelude.{◌≡◌, ◌≤◌, ◌<◌, ◌^◌, ℕ, ◌+◌, All, List, [], ◌∷◌, ◌++◌, map, length, flat_map, decimal, codes}
use Rattle.aig_semantics.specs.declared.traces.Position.{Position}
use Rattle.aig_semantics.specs.Circuits.{Circuit}
use Rattle.aig_semantics.specs.Runs.{IsFairLasso}
use Rattle.aig_semantics.specs.Stimuli.{StandsFor}
use Rattle.fair_semantics.specs.Entries.{Entry}
use Rattle.fair_semantics.specs.Rounds.{HasFewRounds}
use Rattle.answer_lines.specs.Left.{most_bytes}
use Rattle.certificate_lines.specs.declared.words.Version.TheVariants.{Two}
use Rattle.certificate_lines.specs.declared.words.WordLine.TheVariants as lines
use Rattle.certificate_lines.specs.Words.{word_line_text, HasNumbers}
use Rattle.certificate_lines.specs.Uses.{MayStand, written}
use Rattle.entry.specs.declared.refutations.Refutation.{Refutation}
use Rattle.entry.specs.Proved.{IsGoodRefutation}
use Rattle.certificate.specs.declared.limits.TheConstants.{MAX_ENTRIES}
use Rattle.certificate.specs.Lines.{kept_in, bare}
use Rattle.certificate_texts.specs.declared.certificates.Written.{Written}
use Rattle.certificate_texts.specs.declared.certificates.Certificate.{Certificate}
use Rattle.certificate_texts.specs.Certificates.{entry_lines, refuting_line, refutation_lines, CanBeWritten}
use Rattle.certificate.specs.Certificates.{AreProvedBehind}
use Rattle.certificate_texts.specs.Writing.{property_line}
use Rattle.certificate.specs.Answers.{Spells}
pub use Rattle.sheet_answers.specs.declared.blocks.Block.{Block}
use Rattle.sheet_answers.specs.declared.blocks.Block.TheVariants.{Lasso, Holds, Open}
pub use Rattle.sheet_answers.specs.declared.counts.Counts.{Counts}

-- A sheet: its entries as their lines spell them, and a block for each property.
pub record Sheet : Type 0 where
  pub entries : List Written
  pub blocks : List Block

-- How it is spelled.

-- the first line, for so many properties
abbrev pub all_line : ℕ → List ℕ
all_line count = codes "all " ++ decimal count

-- the first line of the block of property n
abbrev pub lasso_line : ℕ → List ℕ
lasso_line n = codes "lasso " ++ property_line n

abbrev pub holds_line : ℕ → List ℕ
holds_line n = codes "holds " ++ property_line n

abbrev pub open_line : ℕ → List ℕ
open_line n = codes "open " ++ property_line n

abbrev pub version_line : List ℕ
version_line = word_line_text (lines.Version Two)

abbrev pub end_line : List ℕ
end_line = word_line_text lines.End

-- a refutation as that of a certificate of version 2
abbrev pub refuting : Refutation → Certificate
refuting r = record { version = Two; entries = []; uses = r.uses; proof = r.proof }

-- The lines are the blocks of the properties from n on, in their order, and the line end.
abbrev pub AreBlocks : ℕ → List Block → List (List ℕ) → Type 0
AreBlocks n [] lines = lines ≡ end_line ∷ []
AreBlocks n (Lasso stimulus ∷ blocks) lines =
    (rows : List (List ℕ)) × (others : List (List ℕ)) × (lines ≡ lasso_line n ∷ (rows ++ others)) × Spells stimulus rows
    × AreBlocks (n + 1) blocks others
AreBlocks n (Holds r ∷ blocks) lines =
    (others : List (List ℕ)) × (lines ≡ holds_line n ∷ (refutation_lines (refuting r) ++ others)) × AreBlocks (n + 1) blocks others
AreBlocks n (Open ∷ blocks) lines =
    (others : List (List ℕ)) × (lines ≡ open_line n ∷ others) × AreBlocks (n + 1) blocks others

-- The text has the sheet: the line of all properties, the version, the entries, the blocks and the end, and nothing else but
-- skipped lines.
pub record HasSheet (sheet : Sheet) (text : List ℕ) : Type 0 where
  pub small : length sheet.blocks < 2 ^ 63
  pub others : List (List ℕ)
  pub lines : bare (kept_in text)
      ≡ all_line (length sheet.blocks) ∷ version_line ∷ (flat_map entry_lines sheet.entries ++ others)
  pub blocks : AreBlocks 0 sheet.blocks others

-- Which of them are good.

-- the block of property n is good over these entries: its stimulus stands for a fair lasso, or its refutation is one that can
-- be written, and a good one of the property
abbrev pub IsGoodBlock : Circuit → List Entry → ℕ → Block → Type 0
IsGoodBlock c entries n (Lasso stimulus) = (positions : ℕ) × (from : ℕ) × StandsFor c n stimulus positions from
IsGoodBlock c entries n (Holds r) =
    HasNumbers (refuting_line (refuting r)) × All (MayStand Two) (map written r.uses) × IsGoodRefutation c entries n r.uses r.proof
IsGoodBlock c entries n Open = Unit {0}

-- the blocks of the properties from n on are
abbrev pub AreGood : Circuit → List Entry → ℕ → List Block → Type 0
AreGood c entries n [] = Unit {0}
AreGood c entries n (block ∷ blocks) = IsGoodBlock c entries n block × AreGood c entries (n + 1) blocks

-- A good sheet of the circuit: a block for each property and no other, entries within the limit on their number, each of
-- which can be written and is proved behind those before it, and over all of them good blocks.
pub record IsGoodSheet (c : Circuit) (sheet : Sheet) : Type 0 where
  pub each : length sheet.blocks ≡ length c.justice
  pub form : All (CanBeWritten Two) sheet.entries
  pub few : length sheet.entries ≤ MAX_ENTRIES
  pub entries : List Entry
  pub proved : AreProvedBehind c [] sheet.entries entries
  pub blocks : AreGood c entries 0 sheet.blocks

-- the text, no longer than the limit, is that of a good sheet
abbrev pub IsTextOf : Circuit → Sheet → List ℕ → Type 0
IsTextOf c sheet text = (length text ≤ most_bytes) × HasSheet sheet text × IsGoodSheet c sheet

-- What is accepted.

-- no block
abbrev pub none : Counts
none = record { lassos = 0; holds = 0; unknown = 0 }

-- the blocks that were counted, and one more
abbrev pub and_one : Counts → Block → Counts
and_one t (Lasso stimulus) = record t { lassos = t.lassos + 1 }
and_one t (Holds r) = record t { holds = t.holds + 1 }
and_one t Open = record t { unknown = t.unknown + 1 }

-- and these
abbrev pub and_all : Counts → List Block → Counts
and_all t [] = t
and_all t (block ∷ blocks) = and_all (and_one t block) blocks

-- how many they are together, which is the number of the property whose block comes next
abbrev pub total : Counts → ℕ
total t = t.lassos + t.holds + t.unknown

-- The text is a good sheet of the circuit with so many blocks of each kind, and so many entries.
abbrev pub IsSheetWith : Circuit → List ℕ → Counts → ℕ → Type 0
IsSheetWith c text counts entries =
    (sheet : Sheet) × IsTextOf c sheet text × (counts ≡ and_all none sheet.blocks) × (entries ≡ length sheet.entries)

-- What it shows.

-- what a good block of property n shows: a fair lasso; or that no initial run and place form one, and so that no initial run
-- has more rounds of the property than there are states of the latches
abbrev pub ShowsBlock : Circuit → ℕ → Block → Type 0
ShowsBlock c n (Lasso stimulus) = (run : List Position) × (from : ℕ) × IsFairLasso c n run from
ShowsBlock c n (Holds r) = ((run : List Position) (from : ℕ) → IsFairLasso c n run from → ⊥) × HasFewRounds c n
ShowsBlock c n Open = Unit {0}

-- what those of the properties from n on show
abbrev pub ShowBlocks : Circuit → ℕ → List Block → Type 0
ShowBlocks c n [] = Unit {0}
ShowBlocks c n (block ∷ blocks) = ShowsBlock c n block × ShowBlocks c (n + 1) blocks

-- what a sheet of so many blocks of each kind shows: each property has its block, and what the blocks say is so
abbrev pub ShowsSheet : Circuit → Counts → Type 0
ShowsSheet c counts =
    (blocks : List Block) × (length blocks ≡ length c.justice) × (counts ≡ and_all none blocks) × ShowBlocks c 0 blocks
