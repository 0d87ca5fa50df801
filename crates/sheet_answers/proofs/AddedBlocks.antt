-- Lines of a sheet that are added to a text, one after the other.
use Rattle.std.proofs.Common.{◌≡◌, ◌<◌, ℕ, zero, suc, ◌+◌, ◌-◌, List, [], ◌∷◌, ◌++◌, map, flat_map, length, take, get_or, refl, sym, ap, ◌∙◌, arith, append_assoc, append-nil}
use Rattle.std.specs.Prelude.{codes}
use Rattle.std.specs.Arc.{arc_value}
use Rattle.std.specs.declared.sync.Arc.{Arc}
use Rattle.aig_semantics.specs.declared.traces.Stimulus.{Stimulus}
use Rattle.stimulus.specs.Texts.{digit_of}
use Rattle.certificate_lines.specs.declared.words.WordLine.TheVariants as lines
use Rattle.certificate_lines.specs.Words.{word_line_text}
use Rattle.certificate_lines.specs.Uses.{uses_text, written}
use Rattle.entry.specs.declared.refutations.Refutation.{Refutation}
use Rattle.entry.specs.CheckedEntries.{CheckedEntry}
use Rattle.certificate_texts.specs.Adding.{Adds}
use Rattle.certificate_texts.specs.Certificates.{entry_lines, refuting_line, refutation_lines}
use Rattle.certificate.specs.Writing.{listed, written_entry}
use Rattle.certificate_texts.proofs.AddedLines.{both_added}
use Rattle.certificate.proofs.AddedLines.{entries_more}
use Rattle.sheet_answers.specs.Sheets.{Block, all_line, version_line, end_line, refuting}
use Rattle.sheet_answers.specs.Writing.{stimulus_rows, block_lines, lines_of_blocks, lines_of_sheet, sheet_text}

-- one entry more
pub entry_added : {Z : Type 0} → (i : ℕ) (list : List (Arc CheckedEntry Z)) (shared : Arc CheckedEntry Z) (e : CheckedEntry) (old mid new : List ℕ)
    → i < length list → shared ≡ get_or list i shared → e ≡ arc_value {X = CheckedEntry} shared
    → Adds old mid (flat_map entry_lines (map written_entry (listed (take i list)))) → Adds mid new (entry_lines (written_entry e))
    → Adds old new (flat_map entry_lines (map written_entry (listed (take (i + 1) list))))
entry_added {Z} i list shared e old mid new within at is first second =
    both_added old mid new (flat_map entry_lines (map written_entry (listed (take i list)))) (entry_lines (written_entry e)) _ first second
    (entries_more i list shared e within at is)

-- one block more
blocks_more : (n i : ℕ) (blocks : List Block) (block : Block) → i < length blocks → block ≡ get_or blocks i block
    → lines_of_blocks n (take (suc i) blocks) ≡ lines_of_blocks n (take i blocks) ++ block_lines (n + i) block
blocks_more n i [] block within at = absurd (omega (arith, within))
blocks_more n zero (b ∷ blocks) block within at =
    let same : n ≡ n + 0 = omega arith in
    append-nil (block_lines n b) ∙ ap (λ x. block_lines n x) (sym at) ∙ ap (λ m. block_lines m block) same
blocks_more n (suc i) (b ∷ blocks) block within at =
    let same : n + 1 + i ≡ n + suc i = omega arith in
    ap (λ ls. block_lines n b ++ ls) (blocks_more (n + 1) i blocks block (omega (arith, within)) at)
    ∙ sym (append_assoc (block_lines n b) (lines_of_blocks (n + 1) (take i blocks)) (block_lines (n + 1 + i) block))
    ∙ ap (λ m. (block_lines n b ++ lines_of_blocks (n + 1) (take i blocks)) ++ block_lines m block) same

pub block_added : (i : ℕ) (blocks : List Block) (block : Block) (old mid new : List ℕ) → i < length blocks → block ≡ get_or blocks i block
    → Adds old mid (lines_of_blocks 0 (take i blocks)) → Adds mid new (block_lines i block) → Adds old new (lines_of_blocks 0 (take (i + 1) blocks))
block_added i blocks block old mid new within at first second =
    let same : 0 + i ≡ i = omega arith in
    let next : i + 1 ≡ suc i = omega arith in
    both_added old mid new (lines_of_blocks 0 (take i blocks)) (block_lines i block) _ first second
    (ap (λ m. lines_of_blocks 0 (take m blocks)) next ∙ blocks_more 0 i blocks block within at ∙ ap (λ m. lines_of_blocks 0 (take i blocks) ++ block_lines m block) same)

-- the rows of a stimulus, and the dot
pub stimulus_added : (s : Stimulus) (old first second third : List ℕ) → Adds old first (map digit_of s.latches ∷ []) → Adds first second (map (map digit_of) s.inputs)
    → Adds second third (codes "." ∷ []) → Adds old third (stimulus_rows s)
stimulus_added s old first second third a b c =
    let front : Adds old second (map (map digit_of) (s.latches ∷ s.inputs)) = both_added old first second (map digit_of s.latches ∷ []) (map (map digit_of) s.inputs) _ a b refl in
    both_added old second third (map (map digit_of) (s.latches ∷ s.inputs)) (codes "." ∷ []) _ front c refl

-- a refutation
pub refutation_added : (r : Refutation) (old first second third : List ℕ) → Adds old first (word_line_text (refuting_line (refuting r)) ∷ []) → Adds first second (uses_text (map written r.uses) ∷ [])
    → Adds second third r.proof → Adds old third (refutation_lines (refuting r))
refutation_added r old first second third a b c =
    let front : Adds old second (word_line_text (refuting_line (refuting r)) ∷ uses_text (map written r.uses) ∷ []) = both_added old first second (word_line_text (refuting_line (refuting r)) ∷ []) (uses_text (map written r.uses) ∷ []) _ a b refl in
    both_added old second third (word_line_text (refuting_line (refuting r)) ∷ uses_text (map written r.uses) ∷ []) r.proof _ front c refl

-- all parts of a sheet
pub sheet_added : (list : List CheckedEntry) (blocks : List Block) (first second third fourth fifth : List ℕ) → Adds [] first (all_line (length blocks) ∷ []) → Adds first second (version_line ∷ [])
    → Adds second third (flat_map entry_lines (map written_entry list)) → Adds third fourth (lines_of_blocks 0 blocks) → Adds fourth fifth (end_line ∷ []) → fifth ≡ sheet_text list blocks
sheet_added list blocks first second third fourth fifth a b c d e =
    let es : List (List ℕ) = flat_map entry_lines (map written_entry list) in
    let bs : List (List ℕ) = lines_of_blocks 0 blocks in
    let head : List (List ℕ) = all_line (length blocks) ∷ version_line ∷ [] in
    let one : Adds [] second head = both_added [] first second (all_line (length blocks) ∷ []) (version_line ∷ []) _ a b refl in
    let two : Adds [] third (head ++ es) = both_added [] second third head es _ one c refl in
    let three : Adds [] fourth (head ++ (es ++ bs)) = both_added [] third fourth (head ++ es) bs _ two d refl in
    both_added [] fourth fifth (head ++ (es ++ bs)) (end_line ∷ []) (lines_of_sheet list blocks) three e
    (ap (λ ls. all_line (length blocks) ∷ version_line ∷ ls) (sym (append_assoc es bs (end_line ∷ []))))
