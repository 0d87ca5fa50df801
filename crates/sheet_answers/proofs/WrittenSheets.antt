-- What is written of proved entries and true blocks over them is a good sheet.
use Rattle.std.proofs.Common.{◌≡◌, ◌≤◌, ◌<◌, ◌^◌, ℕ, ◌+◌, Bool, true, false, List, [], ◌∷◌, ◌++◌, map, flat_map, length, refl, sym, arith, All, Some, append_assoc}
use Rattle.std.specs.Prelude.{codes, decimal}
use Rattle.std.proofs.lemmas.List.{length-map}
use Rattle.std.proofs.lemmas.List.Elements.{All-nil, All-cons, All-append, All-push}
use Rattle.aig_semantics.specs.declared.traces.Stimulus.{Stimulus}
use Rattle.aig_semantics.specs.Circuits.{Circuit, IsChecked, IsWithinLimits}
use Rattle.fair_semantics.specs.Entries.{Entry}
use Rattle.answer_lines.specs.Left.{most_bytes}
use Rattle.stimulus.specs.Texts.{value_of, digit_of, row_values, present}
use Rattle.certificate_lines.specs.declared.words.Version.TheVariants.{Two}
use Rattle.certificate_lines.specs.declared.words.WordLine.TheVariants as lines
use Rattle.certificate_lines.specs.Words.{HasNumbers}
use Rattle.certificate_lines.specs.Uses.{MayStand, written}
use Rattle.entry.specs.CheckedEntries.{CheckedEntry}
use Rattle.certificate.specs.declared.limits.TheConstants.{MAX_ENTRIES}
use Rattle.certificate_texts.specs.Certificates.{entry_lines, refuting_line, refutation_lines}
use Rattle.certificate_texts.specs.Writing.{property_line}
use Rattle.certificate.specs.Answers.{Spells}
use Rattle.certificate.specs.Writing.{written_entry}
use Rattle.certificate.proofs.PlainLines.{IsPlain, plain_append, plain_word, plain_decimal, word_line_plain, property_plain, written_kept}
use Rattle.certificate_texts.proofs.WrittenSizes.{size, size_first, size_both}
use Rattle.certificate.proofs.WrittenEntries.{uses_stand, refuting_numbers, entries_plain, refutation_plain}
use Rattle.certificate.proofs.WrittenCertificates.{AreFine, all_fine}
use Rattle.sheet_answers.specs.declared.blocks.Block.TheVariants.{Lasso, Holds, Open}
use Rattle.sheet_answers.specs.Sheets.{Block, all_line, lasso_line, holds_line, open_line, version_line, end_line, refuting, AreBlocks, IsGoodBlock, AreGood, IsSheetWith, none, and_all}
use Rattle.sheet_answers.specs.Writing.{stimulus_rows, block_lines, lines_of_blocks, sheet_of, lines_of_sheet, sheet_text, IsTrueBlock, AreTrue, IsSo}
use Rattle.sheet_answers.specs.Laws.{WrittenSheetsAreGood}

-- ---- a stimulus

digit_back : (value : Bool) → value_of (digit_of value) ≡ Some value
digit_back true = refl
digit_back false = refl

row_back : (row : List Bool) → map value_of (map digit_of row) ≡ map Some row
row_back [] = refl
row_back (value ∷ row) = let first = digit_back value in let others = row_back row in λ j. first j ∷ others j

rows_back : (rows : List (List Bool)) → row_values (map (map digit_of) rows) ≡ present rows
rows_back [] = refl
rows_back (row ∷ rows) = let first = row_back row in let others = rows_back rows in λ j. first j ∷ others j

spelled_rows : (s : Stimulus) → Spells s (stimulus_rows s)
spelled_rows s = (map (map digit_of) (s.latches ∷ s.inputs), refl, rows_back (s.latches ∷ s.inputs))

digit_plain : (value : Bool) → IsPlain (digit_of value ∷ [])
digit_plain true = plain_word (49 ∷ []) refl refl
digit_plain false = plain_word (48 ∷ []) refl refl

row_plain : (row : List Bool) → IsPlain (map digit_of row)
row_plain [] = plain_word [] refl refl
row_plain (value ∷ row) = plain_append (digit_of value ∷ []) (map digit_of row) (digit_plain value) (row_plain row)

rows_plain : (rows : List (List Bool)) → All IsPlain (map (map digit_of) rows)
rows_plain [] = All-nil IsPlain
rows_plain (row ∷ rows) = All-cons IsPlain (map digit_of row) (map (map digit_of) rows) (row_plain row) (rows_plain rows)

stimulus_plain : (s : Stimulus) → All IsPlain (stimulus_rows s)
stimulus_plain s = All-push IsPlain (map (map digit_of) (s.latches ∷ s.inputs)) (codes ".") (rows_plain (s.latches ∷ s.inputs)) (plain_word (codes ".") refl refl)

-- ---- the blocks

blocks_spelled : (n : ℕ) (blocks : List Block) → AreBlocks n blocks (lines_of_blocks n blocks ++ end_line ∷ [])
blocks_spelled n [] = refl
blocks_spelled n (Lasso s ∷ blocks) =
    let others : List (List ℕ) = lines_of_blocks (n + 1) blocks ++ end_line ∷ [] in
    (stimulus_rows s, others, append_assoc (block_lines n (Lasso s)) (lines_of_blocks (n + 1) blocks) (end_line ∷ []), spelled_rows s, blocks_spelled (n + 1) blocks)
blocks_spelled n (Holds r ∷ blocks) =
    let others : List (List ℕ) = lines_of_blocks (n + 1) blocks ++ end_line ∷ [] in
    (others, append_assoc (block_lines n (Holds r)) (lines_of_blocks (n + 1) blocks) (end_line ∷ []), blocks_spelled (n + 1) blocks)
blocks_spelled n (Open ∷ blocks) = (lines_of_blocks (n + 1) blocks ++ end_line ∷ [], refl, blocks_spelled (n + 1) blocks)

lasso_plain : (n : ℕ) → n < 2 ^ 63 → IsPlain (lasso_line n)
lasso_plain n small = plain_append (codes "lasso ") (property_line n) (plain_word (codes "lasso ") refl refl) (property_plain n small)

holds_plain : (n : ℕ) → n < 2 ^ 63 → IsPlain (holds_line n)
holds_plain n small = plain_append (codes "holds ") (property_line n) (plain_word (codes "holds ") refl refl) (property_plain n small)

open_plain : (n : ℕ) → n < 2 ^ 63 → IsPlain (open_line n)
open_plain n small = plain_append (codes "open ") (property_line n) (plain_word (codes "open ") refl refl) (property_plain n small)

module _ (c : Circuit) (checked : IsChecked c) (limits : IsWithinLimits c) (entries : List Entry) (few : length entries ≤ MAX_ENTRIES) where
  record IsFine (n : ℕ) (block : Block) : Type 0 where
    good : IsGoodBlock c entries n block
    plain : All IsPlain (block_lines n block)

  block_fine : (n : ℕ) (block : Block) → n < 2 ^ 63 → size (block_lines n block) ≤ most_bytes → IsTrueBlock c entries n block → IsFine n block
  block_fine n (Lasso s) small short stands =
      record { good = stands; plain = All-cons IsPlain (lasso_line n) (stimulus_rows s) (lasso_plain n small) (stimulus_plain s) }
  block_fine n (Holds r) small short refuted =
      let first = size_first (holds_line n) (refutation_lines (refuting r)) in
      let sizes : HasNumbers (refuting_line (refuting r)) = refuting_numbers (refuting r) (omega (arith, first, short)) in
      let signs : All (MayStand Two) (map written r.uses) = uses_stand (length entries) r.uses few refuted.closed.present in
      record {
        good = (sizes, signs, refuted);
        plain = All-cons IsPlain (holds_line n) (refutation_lines (refuting r)) (holds_plain n small)
            (refutation_plain (refuting r) _ sizes signs refuted.refutes);
      }
  block_fine n Open small short h = record { good = tt; plain = All-cons IsPlain (open_line n) [] (open_plain n small) (All-nil IsPlain) }

  blocks_fine : (n : ℕ) (blocks : List Block) → n + length blocks < 2 ^ 63 → size (lines_of_blocks n blocks) ≤ most_bytes → AreTrue c entries n blocks
      → AreGood c entries n blocks × All IsPlain (lines_of_blocks n blocks)
  blocks_fine n [] small short h = (tt, All-nil IsPlain)
  blocks_fine n (block ∷ blocks) small short (here, others) =
      let both = size_both (block_lines n block) (lines_of_blocks (n + 1) blocks) in
      let first = block_fine n block (omega (arith, small)) (omega (arith, both, short)) here in
      let rest = blocks_fine (n + 1) blocks (omega (arith, small)) (omega (arith, both, short)) others in
      ((first.good, rest.0), All-append IsPlain (block_lines n block) (lines_of_blocks (n + 1) blocks) first.plain rest.1)

-- ---- the whole sheet

module _ (c : Circuit) (checked : IsChecked c) (limits : IsWithinLimits c) (list : List CheckedEntry) (blocks : List Block) (h : IsSo c list blocks)
    (short : length (sheet_text list blocks) ≤ most_bytes) where
  abbrev entries_of : List Entry
  entries_of = map (λ e. e.entry) list

  abbrev entry_part : List (List ℕ)
  entry_part = flat_map entry_lines (map written_entry list)

  abbrev block_part : List (List ℕ)
  block_part = lines_of_blocks 0 blocks

  parts : (size entry_part ≤ most_bytes) × (size block_part ≤ most_bytes)
  parts =
      let one = size_first (all_line (length blocks)) (version_line ∷ (entry_part ++ (block_part ++ end_line ∷ []))) in
      let two = size_first version_line (entry_part ++ (block_part ++ end_line ∷ [])) in
      let three = size_both entry_part (block_part ++ end_line ∷ []) in
      let four = size_both block_part (end_line ∷ []) in
      (omega (arith, one, two, three, four, short), omega (arith, one, two, three, four, short))

  small : length blocks < 2 ^ 63
  small = let each = h.each in let justice = limits.justice in omega (arith, each, justice)

  many : length entries_of ≡ length list
  many = length-map list (λ (e : CheckedEntry). e.entry)

  entries_fine : AreFine c checked limits [] list
  entries_fine = let few = h.few in all_fine c checked limits [] list h.proved (omega (arith, few)) parts.0

  fine : AreGood c entries_of 0 blocks × All IsPlain block_part
  fine =
      let few : length entries_of ≤ MAX_ENTRIES = let count = many in let most = h.few in omega (arith, count, most) in
      let below = small in
      blocks_fine c checked limits entries_of few 0 blocks (omega (arith, below)) parts.1 h.hold

  all_plain : IsPlain (all_line (length blocks))
  all_plain = plain_append (codes "all ") (decimal (length blocks)) (plain_word (codes "all ") refl refl) (plain_decimal (length blocks) small)

  lines_plain : All IsPlain (lines_of_sheet list blocks)
  lines_plain =
      let ended = All-push IsPlain block_part end_line fine.1 (word_line_plain lines.End tt) in
      All-cons IsPlain (all_line (length blocks)) (version_line ∷ (entry_part ++ (block_part ++ end_line ∷ []))) all_plain
      (All-cons IsPlain version_line (entry_part ++ (block_part ++ end_line ∷ [])) (word_line_plain (lines.Version Two) tt)
      (All-append IsPlain entry_part (block_part ++ end_line ∷ []) (entries_plain c [] (map written_entry list) entries_of entries_fine.form entries_fine.proved) ended))

  good : IsSheetWith c (sheet_text list blocks) (and_all none blocks) (length list)
  good = (
    sheet_of list blocks,
    (
      short,
      record {
        small = small;
        others = block_part ++ end_line ∷ [];
        lines = written_kept (lines_of_sheet list blocks) lines_plain;
        blocks = blocks_spelled 0 blocks;
      },
      record {
        each = h.each;
        form = entries_fine.form;
        few = (let count = length-map list written_entry in let most = h.few in omega (arith, count, most));
        entries = entries_of;
        proved = entries_fine.proved;
        blocks = fine.0;
      },
    ),
    refl,
    sym (length-map list written_entry),
  )

pub written_sheets : (c : Circuit) → IsChecked c → IsWithinLimits c → WrittenSheetsAreGood c
written_sheets c checked limits list blocks h short = good c checked limits list blocks h short
