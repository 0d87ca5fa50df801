-- Texts that are no sheets are judged as they are.
use Rattle.std.proofs.Common.{◌≡◌, inl, inr, ℕ, ◌≤◌, true, false, List, length, refl, sym, ap, subst, ◌∙◌, Result, Ok, Err}
use Rattle.std.specs.Prelude.{codes}
use Rattle.std.proofs.lemmas.Bool.{false≢true, true≢false}
use Rattle.aig_semantics.specs.Circuits.{Circuit}
use Rattle.answer_lines.specs.Left.{most_bytes}
use Rattle.certificate.specs.declared.ends.Accepted.{Accepted}
use Rattle.certificate.specs.declared.ends.Accepted.TheVariants.{Lasso, Holds}
use Rattle.certificate.specs.Lines.{kept_in, bare}
use Rattle.certificate.specs.Answers.{IsGood}
use Rattle.certificate.proofs.GoodRead.{all_readable, good_short as good_answer_short}
use Rattle.round_answers.specs.declared.ends.Judged.{Judged as TextJudged}
use Rattle.round_answers.specs.declared.ends.Judged.TheVariants.{Answer as Answered, Rounds}
use Rattle.round_answers.specs.declared.ends.JudgeEnd.{JudgeEnd as TextEnd}
use Rattle.round_answers.specs.Answers.{IsGoodText as IsGoodOther}
use Rattle.round_answers.specs.Ends.{Decides as OtherDecides, EndsWith as OtherEndsWith}
use Rattle.sheet_answers.specs.declared.ends.Judged.{Judged}
use Rattle.sheet_answers.specs.declared.ends.Judged.TheVariants.{Text, Sheet}
use Rattle.sheet_answers.specs.declared.ends.JudgeEnd.{JudgeEnd}
use Rattle.sheet_answers.specs.declared.ends.JudgeEnd.TheVariants as ends
use Rattle.sheet_answers.specs.Sheets.{Counts, IsSheetWith}
use Rattle.sheet_answers.specs.Reading.{is_sheet, opens_as_sheet}
use Rattle.sheet_answers.specs.Ends.{RefusesAs, Decides, EndsWith}
use Rattle.sheet_answers.specs.First.{as_text, unknown}

-- ---- good texts that are no sheets

good_answer_other : (c : Circuit) (text : List ℕ) (accepted : Accepted) → IsGood c text accepted → is_sheet (bare (kept_in text)) ≡ false
good_answer_other c text (Lasso n positions from) (_, _, stimulus, (others, (small, opens), spells), stands) = ap is_sheet opens
good_answer_other c text (Holds n entries) (_, _, certificate, (small, opens), good, count) = ap is_sheet opens

good_short : (c : Circuit) (text : List ℕ) (judged : TextJudged) → IsGoodOther c text judged → length text ≤ most_bytes
good_short c text (Answered accepted) (other, good) = good_answer_short c text accepted good
good_short c text (Rounds n k true) h = h.2
good_short c text (Rounds n k false) h = h.2

good_other : (c : Circuit) (text : List ℕ) (judged : TextJudged) → IsGoodOther c text judged → is_sheet (bare (kept_in text)) ≡ false
good_other c text (Answered accepted) (other, good) = good_answer_other c text accepted good
good_other c text (Rounds n k true) (may, able, short, stimulus, (others, (small, opens), spells), reached) = ap is_sheet opens
good_other c text (Rounds n k false) (may, able, short, certificate, (small, opens), fewer) = ap is_sheet opens

pub no_other : (c : Circuit) (text : List ℕ) (judged : TextJudged) → opens_as_sheet text ≡ true → IsGoodOther c text judged → ⊥
no_other c text judged is good =
    false≢true (sym (good_other c text judged good) ∙ ap is_sheet (sym (ap bare (all_readable text (good_short c text judged good)))) ∙ is)

-- a text of unknown status, that is no sheet
pub two_decides : (c : Circuit) → OtherDecides c (codes "2") unknown
two_decides c = refl

pub two_is_other : opens_as_sheet (codes "2") ≡ false
two_is_other = refl

-- ---- other texts

pub as_decided : (c : Circuit) (text : List ℕ) (r : Result TextJudged TextEnd) → opens_as_sheet text ≡ false → OtherDecides c text r → Decides c text (as_text r)
as_decided c text (Ok judged) other h = h
as_decided c text (Err end) other h = subst (λ b. RefusesAs b c text (ends.Text end)) (sym other) h

sheet_good : (c : Circuit) (text : List ℕ) (counts : Counts) (entries : ℕ) → IsSheetWith c text counts entries → opens_as_sheet text ≡ true
sheet_good c text counts entries (sheet, (short, has, good), of, count) =
    ap is_sheet (ap bare (all_readable text short)) ∙ ap is_sheet has.lines

-- what such a text decides is the end of another text
pub other_decides : (c : Circuit) (text : List ℕ) (verdict : Result Judged JudgeEnd) → opens_as_sheet text ≡ false → Decides c text verdict
    → (end : Result TextJudged TextEnd) × (as_text end ≡ verdict) × OtherDecides c text end
other_decides c text (Ok (Text judged)) other h = (Ok judged, refl, h)
other_decides c text (Ok (Sheet counts entries)) other h = absurd (true≢false (sym (sheet_good c text counts entries h) ∙ other))
other_decides c text (Err (ends.Text end)) other h = (Err end, refl, subst (λ b. RefusesAs b c text (ends.Text end)) other h)
other_decides c text (Err (ends.Block n fault)) other h = absurd (subst (λ b. RefusesAs b c text (ends.Block n fault)) other h)

pub same_end : (r end : Result TextJudged TextEnd) (verdict : Result Judged JudgeEnd) → as_text end ≡ verdict → OtherEndsWith r end → EndsWith (as_text r) verdict
same_end r end verdict same (inl (inl equal)) = inl (inl (ap as_text equal ∙ same))
same_end r end verdict same (inl (inr unread)) = inl (inr (ap as_text unread))
same_end r end verdict same (inr none) = inr (ap as_text none)
