-- Texts that are read whole and held: judged in memory, where no read fails, and by their lines.
use Rattle.std.proofs.Common.{◌≡◌, inl, inr, ℕ, zero, suc, ◌<◌, ◌≤◌, min, Bool, true, false, List, [], length, take, refl, sym, ap, ◌∙◌, subst, arith, Some, Ok, Err}
use Rattle.std.specs.Prelude.{Option, Result}
use Rattle.std.proofs.lemmas.Bool.{false≢true}
use Rattle.std.proofs.lemmas.List.{length-take, take_all}
use Rattle.aig_semantics.specs.Circuits.{Circuit}
use Rattle.answer_lines.specs.Left.{most_bytes}
use Rattle.edge.specs.InMemory.{ShelfInMemory, text_of}
use Rattle.edge.specs.Reads.{ReadsOf, Within, GoodReads, Reads}
use Rattle.edge.specs.Told.{IfTold, MayBe}
use Rattle.edge.proofs.Steady.{ReadsInMemory, no_read_fails}
use Rattle.text_grammar.specs.Lines.{lines_of}
use Rattle.stimulus.specs.Texts.{kept_lines}
use Rattle.unless_memory.specs.Answers.{GivesSome}
use Rattle.certificate.specs.declared.ends.AnswerEnd.TheVariants as answer_ends
use Rattle.certificate.specs.Lines.{kept_in, bare}
use Rattle.certificate.proofs.GoodRead.{all_readable}
use Rattle.certificate.proofs.WrittenGood.{kept-bare}
use Rattle.round_answers.specs.declared.ends.Judged.{Judged as TextJudged}
use Rattle.round_answers.specs.declared.ends.JudgeEnd.TheVariants as text_ends
use Rattle.sheet_answers.specs.declared.counts.Counts.{Counts}
use Rattle.sheet_answers.specs.declared.ends.Judged.{Judged}
use Rattle.sheet_answers.specs.declared.ends.Judged.TheVariants.{Text, Sheet}
use Rattle.sheet_answers.specs.declared.ends.JudgeEnd.{JudgeEnd}
use Rattle.sheet_answers.specs.declared.ends.JudgeEnd.TheVariants as ends
use Rattle.sheet_answers.specs.declared.texts.GoodSheet.{GoodSheet}
use Rattle.sheet_answers.specs.Sheets.{none, and_all}
use Rattle.sheet_answers.specs.Reading.{is_sheet, opens_as_sheet}
use Rattle.sheet_answers.specs.Ends.{Decides, SaysOf, JudgeSays, EndsWith, IsUnended, has_unread, read_failed, read_fault, refused_memory, no_memory}
use Rattle.sheet_answers.specs.Texts.{HasLines, DecidesLines}
use Rattle.sheet_answers.proofs.Others.{no_other}

abbrev Judging : Type 0
Judging = Result Judged JudgeEnd

abbrev Lined : Type 0
Lined = Result GoodSheet JudgeEnd

-- ---- the text that was read

-- a front that is shorter than its limit is the whole
whole : (bytes text : List ℕ) (n : ℕ) → length bytes < n → bytes ≡ take n text → text ≡ bytes
whole bytes text n short is =
    let size : length bytes ≡ min n (length text) = ap length is ∙ length-take n text in
    sym (is ∙ take_all n text (omega (arith, size, short)))

-- what was read below the limit is the text
pub may_be : (told : Option (List ℕ)) (bytes : List ℕ) (n : ℕ) → length bytes < n → IfTold told (λ text. bytes ≡ take n text) → MayBe told bytes
may_be told bytes n short is = λ text e. whole bytes text n short (is text e)

good_within : {Shelf : Type 0} (Read : ReadsOf Shelf) (name : List ℕ) (most n : ℕ) (old new : Shelf) → GoodReads (Within most Read) name n old new → GoodReads Read name n old new
good_within Read name most zero old new h = h
good_within Read name most (suc n) old new (mid, before, (from, room, (within, step))) =
    (mid, good_within Read name most n old mid before, (from, room, step))

-- reads within a limit are reads
pub reads_within : {Shelf : Type 0} (Read : ReadsOf Shelf) (name : List ℕ) (most : ℕ) (failed : Bool) (old new : Shelf) → Reads (Within most Read) name failed old new
    → Reads Read name failed old new
reads_within Read name most false old new (n, good) = (n, good_within Read name most n old new good)
reads_within Read name most true old new (n, last, good, (from, room, (within, step))) = (n, last, good_within Read name most n old last good, (from, room, step))

-- what is so of the text that was read is so of the one that the shelf may hold
pub says : {T : Type 0} (D : List ℕ → Result T JudgeEnd → Type 0) (told : Option (List ℕ)) (text : List ℕ) (result : Result T JudgeEnd) → MayBe told text
    → GivesSome (Err refused_memory) (D text) result → SaysOf D told result
says D told text result may (inl decides) = inl (inr (text, may, decides))
says D told text result may (inr memory) = inr memory

pub exactly : {T : Type 0} (D : List ℕ → Result T JudgeEnd → Type 0) (told : Option (List ℕ)) (bytes : List ℕ) (result : Result T JudgeEnd) → MayBe told bytes
    → ((verdict : Result T JudgeEnd) → D bytes verdict → GivesSome (Err refused_memory) (λ end. end ≡ verdict) result)
    → (text : List ℕ) (verdict : Result T JudgeEnd) → told ≡ Some text → D text verdict → EndsWith result verdict
exactly {T} D told bytes result may exact text verdict e d = by (exact verdict (subst (λ (t : List ℕ). D t verdict) (may text e) d))
  where
    by : GivesSome (Err refused_memory) (λ end. end ≡ verdict) result → EndsWith result verdict
    by (inl same) = inl (inl same)
    by (inr memory) = inr memory

-- a failed read, and want of memory, say nothing of it
abbrev errs : {T : Type 0} → JudgeEnd → Result T JudgeEnd
errs end = Err end

pub unended_says : {T : Type 0} (D : List ℕ → Result T JudgeEnd → Type 0) (told : Option (List ℕ)) (end : JudgeEnd) → IsUnended end → SaysOf D told (Err end)
unended_says {T} D told end (inl failed) = inl (inl (ap (λ (e : JudgeEnd). errs {T = T} e) failed))
unended_says {T} D told end (inr memory) = inr (ap (λ (e : JudgeEnd). errs {T = T} e) memory)

pub unended_ends : {T : Type 0} (end : JudgeEnd) (verdict : Result T JudgeEnd) → IsUnended end → EndsWith (Err end) verdict
unended_ends {T} end verdict (inl failed) = inl (inr (ap (λ (e : JudgeEnd). errs {T = T} e) failed))
unended_ends {T} end verdict (inr memory) = inr (ap (λ (e : JudgeEnd). errs {T = T} e) memory)

pub failed_end : {T : Type 0} (end : JudgeEnd) → errs {T = T} end ≡ Err read_failed → end ≡ read_failed
failed_end end is = cc is

pub not_unread : {T : Type 0} (result : Result T JudgeEnd) → has_unread {T = T} result ≡ false → result ≡ Err read_failed → ⊥
not_unread {T} result none is = false≢true (sym none ∙ ap (λ (r : Result T JudgeEnd). has_unread {T = T} r) is)

-- ---- a text in memory, of which no read fails

pub never_unjudged : (end : Judging) (name text : List ℕ) (old new : ShelfInMemory) → old.failing ≡ [] → text_of old.texts name ≡ Some text
    → Reads ReadsInMemory name (has_unread end) old new → end ≡ read_fault → ⊥
never_unjudged end name text old new steady told reads is =
    no_read_fails name text old new steady told (subst (λ (e : Judging). Reads ReadsInMemory name (has_unread e) old new) is reads)

pub judged_says : (c : Circuit) (text : List ℕ) (end : Judging) → (end ≡ read_fault → ⊥) → JudgeSays c (Some text) end → GivesSome no_memory (Decides c text) end
judged_says c text end read (inl (inl unread)) = absurd (read unread)
judged_says c text end read (inl (inr (other, may, decides))) = inl (subst (λ (t : List ℕ). Decides c t end) (sym (may text refl)) decides)
judged_says c text end read (inr memory) = inr memory

pub judged_exactly : (end verdict : Judging) → (end ≡ read_fault → ⊥) → EndsWith end verdict → GivesSome no_memory (λ r. r ≡ verdict) end
judged_exactly end verdict read (inl (inl same)) = inl same
judged_exactly end verdict read (inl (inr unread)) = absurd (read unread)
judged_exactly end verdict read (inr memory) = inr memory

pub was_judged : (end : Judging) → (end ≡ read_fault → ⊥) → has_unread {T = Judged} end ≡ false
was_judged (Ok judged) read = refl
was_judged (Err (ends.Text (text_ends.Answer (answer_ends.Refused fault)))) read = refl
was_judged (Err (ends.Text (text_ends.Answer answer_ends.ReadFault))) read = absurd (read refl)
was_judged (Err (ends.Text (text_ends.Answer answer_ends.Memory))) read = refl
was_judged (Err (ends.Text (text_ends.TooLarge variable))) read = refl
was_judged (Err (ends.Block n fault)) read = refl

-- ---- the lines of a text

-- all lines of a text within the limit are readable
pub opens : (text : List ℕ) → length text ≤ most_bytes → (test : Bool) → is_sheet (kept_lines (lines_of text)) ≡ test → opens_as_sheet text ≡ test
opens text short test is = ap is_sheet (ap bare (all_readable text short) ∙ kept-bare 1 (lines_of text)) ∙ is

abbrev as_lined : Judging → Lined
as_lined (Ok judged) = Err refused_memory
as_lined (Err end) = Err end

module _ (c : Circuit) (text : List ℕ) (lines : List (List ℕ)) (are : lines ≡ kept_lines (lines_of text)) where
  lined : lines ≡ bare (kept_in text)
  lined = are ∙ sym (kept-bare 1 (lines_of text))

  -- no other text was accepted
  pub no_text : length text ≤ most_bytes → is_sheet lines ≡ true → (other : TextJudged) → GivesSome no_memory (Decides c text) (Ok (Text other)) → ⊥
  no_text short is other (inl good) = no_other c text other (opens text short true (ap is_sheet (sym are) ∙ is)) good
  no_text short is other (inr wrong) = cc wrong

  pub good_found : (counts : Counts) (count : ℕ) → GivesSome no_memory (Decides c text) (Ok (Sheet counts count))
      → GivesSome (Err refused_memory) (DecidesLines c text) (Ok (record { lines = lines; entries = count }))
  good_found counts count (inl (sheet, of, counted, many)) = inl (sheet, of, lined, many)
  good_found counts count (inr wrong) = absurd (cc wrong)

  pub good_exactly : (counts : Counts) (count : ℕ) → ((verdict : Judging) → Decides c text verdict → GivesSome no_memory (λ r. r ≡ verdict) (Ok (Sheet counts count)))
      → (v : Lined) → DecidesLines c text v → GivesSome (Err refused_memory) (λ r. r ≡ v) (Ok (record { lines = lines; entries = count }))
  good_exactly counts count exactly (Ok found) (sheet, of, are_lines, many) = elim (exactly (Ok (Sheet (and_all none sheet.blocks) (length sheet.entries))) (sheet, of, refl, refl)) [
    | inl same ↦ (
        let entries : count ≡ length sheet.entries = cc same in
        let one : lines ≡ found.lines = lined ∙ sym are_lines in
        let all : count ≡ found.entries = entries ∙ sym many in
        inl (λ i. Ok (record { lines = one i; entries = all i })))
    | inr wrong ↦ absurd (cc wrong)
  ]
  good_exactly counts count exactly (Err end) decides = elim (exactly (Err end) decides) [
    | inl wrong ↦ absurd (cc wrong)
    | inr wrong ↦ absurd (cc wrong)
  ]

-- a sheet that is refused
pub refused_found : (c : Circuit) (text : List ℕ) (end : JudgeEnd) → GivesSome no_memory (Decides c text) (Err end) → GivesSome (Err refused_memory) (DecidesLines c text) (Err end)
refused_found c text end (inl decides) = inl decides
refused_found c text end (inr memory) = inr (ap as_lined memory)

pub refused_exactly : (c : Circuit) (text : List ℕ) (end : JudgeEnd) → ((verdict : Judging) → Decides c text verdict → GivesSome no_memory (λ r. r ≡ verdict) (Err end))
    → (v : Lined) → DecidesLines c text v → GivesSome (Err refused_memory) (λ r. r ≡ v) (Err end)
refused_exactly c text end exactly (Ok found) (sheet, of, are_lines, many) = elim (exactly (Ok (Sheet (and_all none sheet.blocks) (length sheet.entries))) (sheet, of, refl, refl)) [
  | inl wrong ↦ absurd (cc wrong)
  | inr memory ↦ inr (ap as_lined memory)
]
refused_exactly c text end exactly (Err other) decides = elim (exactly (Err other) decides) [
  | inl same ↦ inl (ap as_lined same)
  | inr memory ↦ inr (ap as_lined memory)
]

-- want of memory says nothing of it
pub only_room : (end : JudgeEnd) → end ≡ refused_memory → (P : Lined → Type 0) → GivesSome (Err refused_memory) P (Err end)
only_room end is P = inr (ap (λ (e : JudgeEnd). errs {T = GoodSheet} e) is)
