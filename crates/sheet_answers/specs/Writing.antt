-- The sheet of checked entries and of blocks over them, and its text. The format is this program's own.
use Rattle.std.specs.Prelude.{◌≡◌, ◌≤◌, ℕ, ◌+◌, List, [], ◌∷◌, ◌++◌, map, length, flat_map, codes}
use Rattle.aig_semantics.specs.Circuits.{Circuit}
use Rattle.aig_semantics.specs.declared.traces.Stimulus.{Stimulus}
use Rattle.aig_semantics.specs.Stimuli.{StandsFor}
use Rattle.text_grammar.specs.Lines.{ended_lines}
use Rattle.fair_semantics.specs.Entries.{Entry}
use Rattle.stimulus.specs.Texts.{digit_of}
use Rattle.entry.specs.CheckedEntries.{CheckedEntry}
use Rattle.entry.specs.Proved.{IsGoodRefutation}
use Rattle.certificate.specs.declared.limits.TheConstants.{MAX_ENTRIES}
use Rattle.certificate_texts.specs.Certificates.{entry_lines, refutation_lines}
use Rattle.certificate.specs.Writing.{written_entry, AreProvedInOrder}
use Rattle.sheet_answers.specs.Sheets.{Sheet, Block, all_line, version_line, lasso_line, holds_line, open_line, end_line, refuting}
use Rattle.sheet_answers.specs.declared.blocks.Block.TheVariants.{Lasso, Holds, Open}

-- the lines of a stimulus: the values of the latches and of the inputs at each position, and a dot
abbrev pub stimulus_rows : Stimulus → List (List ℕ)
stimulus_rows s = map (map digit_of) (s.latches ∷ s.inputs) ++ codes "." ∷ []

-- the lines of the block of property n
abbrev pub block_lines : ℕ → Block → List (List ℕ)
block_lines n (Lasso s) = lasso_line n ∷ stimulus_rows s
block_lines n (Holds r) = holds_line n ∷ refutation_lines (refuting r)
block_lines n Open = open_line n ∷ []

-- the lines of the blocks of the properties from n on
abbrev pub lines_of_blocks : ℕ → List Block → List (List ℕ)
lines_of_blocks n [] = []
lines_of_blocks n (block ∷ blocks) = block_lines n block ++ lines_of_blocks (n + 1) blocks

-- the sheet of these entries, in their order, and these blocks
abbrev pub sheet_of : List CheckedEntry → List Block → Sheet
sheet_of list blocks = record { entries = map written_entry list; blocks = blocks }

abbrev pub lines_of_sheet : List CheckedEntry → List Block → List (List ℕ)
lines_of_sheet list blocks =
    all_line (length blocks) ∷ version_line ∷ (flat_map entry_lines (map written_entry list) ++ (lines_of_blocks 0 blocks ++ end_line ∷ []))

-- The text of that sheet: each line with its line feed, and nothing else.
abbrev pub sheet_text : List CheckedEntry → List Block → List ℕ
sheet_text list blocks = ended_lines (lines_of_sheet list blocks)

-- the block of property n is true over these entries
abbrev pub IsTrueBlock : Circuit → List Entry → ℕ → Block → Type 0
IsTrueBlock c entries n (Lasso s) = (positions : ℕ) × (from : ℕ) × StandsFor c n s positions from
IsTrueBlock c entries n (Holds r) = IsGoodRefutation c entries n r.uses r.proof
IsTrueBlock c entries n Open = Unit {0}

-- those of the properties from n on are
abbrev pub AreTrue : Circuit → List Entry → ℕ → List Block → Type 0
AreTrue c entries n [] = Unit {0}
AreTrue c entries n (block ∷ blocks) = IsTrueBlock c entries n block × AreTrue c entries (n + 1) blocks

-- There is a block for each property of the circuit, the entries are within the limit on their number, each is proved behind
-- those before it, and over all of them the blocks are true.
pub record IsSo (c : Circuit) (list : List CheckedEntry) (blocks : List Block) : Type 0 where
  pub each : length blocks ≡ length c.justice
  pub few : length list ≤ MAX_ENTRIES
  pub proved : AreProvedInOrder c [] list
  pub hold : AreTrue c (map (λ e. e.entry) list) 0 blocks
