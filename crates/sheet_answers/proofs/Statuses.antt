-- A sheet has an unknown status as another text, and texts of known status are judged as they are.
use Rattle.std.proofs.Common.{◌≡◌, inl, inr, ℕ, Bool, true, false, List, [], ◌∷◌, take, refl, sym, ap, subst, ◌∙◌, arith, Option, Some, Result, Ok, Err}
use Rattle.std.specs.Prelude.{codes, IfOk}
use Rattle.std.specs.Str.{bytes_eq}
use Rattle.std.proofs.lemmas.Bool.{false≢true}
use Rattle.std.proofs.lemmas.Slice.Eq.{bytes_eq-Decides}
use Rattle.aig_semantics.specs.Circuits.{Circuit}
use Rattle.certificate.specs.declared.ends.AnswerFault.{AnswerFault}
use Rattle.certificate.specs.declared.ends.AnswerFault.TheVariants.{UnknownStatus}
use Rattle.certificate.specs.declared.ends.AnswerEnd.TheVariants as answer_ends
use Rattle.certificate.specs.Lines.{Numbered, kept_readable, bare}
use Rattle.certificate.specs.Ends.{IsFirstFault as IsAnswersFault, IsRefused as IsRefusedAnswer}
use Rattle.certificate.specs.Reading.{opens_rounds, opens_sheet}
use Rattle.certificate.specs.Reading as answers
use Rattle.round_answers.specs.declared.ends.Judged.{Judged as TextJudged}
use Rattle.round_answers.specs.declared.ends.JudgeEnd.{JudgeEnd as TextEnd}
use Rattle.round_answers.specs.declared.ends.JudgeEnd.TheVariants as text_ends
use Rattle.round_answers.specs.Texts.{is_about_rounds}
use Rattle.round_answers.specs.Answers.{ShowsText as OtherShows}
use Rattle.round_answers.specs.Ends.{IsRefusedAs, Decides as OtherDecides, JudgeSays as OtherSays, EndsWith as OtherEndsWith, has_unread as other_unread, read_fault as other_read_fault}
use Rattle.sheet_answers.specs.declared.ends.Judged.{Judged}
use Rattle.sheet_answers.specs.declared.ends.Judged.TheVariants.{Text}
use Rattle.sheet_answers.specs.declared.ends.JudgeEnd.{JudgeEnd}
use Rattle.sheet_answers.specs.declared.ends.JudgeEnd.TheVariants as ends
use Rattle.sheet_answers.specs.Reading.{is_sheet, opens_as_sheet}
use Rattle.sheet_answers.specs.Ends.{ShowsText, Decides, JudgeSays, EndsWith, has_unread, read_fault}
use Rattle.sheet_answers.specs.First.{as_text, unknown, IsUnknown}
use Rattle.sheet_answers.proofs.Others.{no_other, as_decided, other_decides, same_end}

-- ---- a sheet, read as an answer

abbrev first_byte : List ℕ → ℕ
first_byte [] = 0
first_byte (byte ∷ line) = byte

same_first : (line : List ℕ) → first_byte (take 6 line) ≡ first_byte (take 3 line)
same_first [] = refl
same_first (byte ∷ line) = refl

not_rounds : (line : List ℕ) → take 3 line ≡ codes "all" → (t : Bool) → bytes_eq (take 6 line) (codes "rounds") ≡ t → opens_rounds line ≡ false
not_rounds line front false is = is
not_rounds line front true is =
    let word : take 6 line ≡ codes "rounds" = (bytes_eq-Decides (take 6 line) (codes "rounds")).0 is in
    let wrong : 114 ≡ 97 = ap first_byte (sym word) ∙ same_first line ∙ ap first_byte front in
    absurd (omega (arith, wrong))

other_word : (line word : List ℕ) (t : Bool) → bytes_eq line word ≡ t → take 3 line ≡ codes "all" → (take 3 word ≡ codes "all" → ⊥) → bytes_eq line word ≡ false
other_word line word false is front differs = is
other_word line word true is front differs = absurd (differs (ap (take 3) (sym ((bytes_eq-Decides line word).0 is)) ∙ front))

opens_no_rounds : (line : List ℕ) → opens_sheet line ≡ true → opens_rounds line ≡ false
opens_no_rounds line h = not_rounds line ((bytes_eq-Decides (take 3 line) (codes "all")).0 h) (bytes_eq (take 6 line) (codes "rounds")) refl

first_status : (line : Numbered) → opens_sheet line.1 ≡ true → answers.status_step line.0 line.1 ≡ Err UnknownStatus
first_status line h =
    let front : take 3 line.1 ≡ codes "all" = (bytes_eq-Decides (take 3 line.1) (codes "all")).0 h in
    let apart : (word : List ℕ) → (take 3 word ≡ codes "all" → ⊥) → bytes_eq line.1 word ≡ false = λ word differs. other_word line.1 word (bytes_eq line.1 word) refl front differs in
    rw (apart (codes "1") (λ e. cc)) (rw (apart (codes "0") (λ e. cc)) (rw (apart (codes "2") (λ e. cc)) (rw (opens_no_rounds line.1 h) (rw h refl))))

sheet_unknown : (c : Circuit) (lines : List Numbered) → is_sheet (bare lines) ≡ true → answers.read_lines c answers.Status lines ≡ Err UnknownStatus
sheet_unknown c [] h = absurd (false≢true h)
sheet_unknown c (line ∷ lines) h = ap (λ (r : answers.Stepped). answers.and_then r (λ t. answers.read_lines c t lines)) (first_status line h)

sheet_no_rounds : (lines : List (List ℕ)) → is_sheet lines ≡ true → is_about_rounds lines ≡ false
sheet_no_rounds [] h = absurd (false≢true h)
sheet_no_rounds (line ∷ lines) h = opens_no_rounds line h

-- the one fault that it has there
pub sheet_fault : (c : Circuit) (text : List ℕ) → opens_as_sheet text ≡ true → IsRefusedAnswer c text UnknownStatus
sheet_fault c text is = subst (λ (r : answers.Stepped). IsAnswersFault c text r UnknownStatus) (sym (sheet_unknown c (kept_readable text) is)) refl

pub same_fault : (c : Circuit) (text : List ℕ) (fault : AnswerFault) → opens_as_sheet text ≡ true → IsRefusedAnswer c text fault → fault ≡ UnknownStatus
same_fault c text fault is h = subst (λ (r : answers.Stepped). IsAnswersFault c text r fault) (sheet_unknown c (kept_readable text) is) h

-- ---- how the check of another text ends on a sheet

abbrev refused_as : AnswerFault → Result TextJudged TextEnd
refused_as fault = Err (text_ends.Answer (answer_ends.Refused fault))

unknown_by : (c : Circuit) (text : List ℕ) (fault : AnswerFault) → opens_as_sheet text ≡ true → OtherDecides c text (refused_as fault) → refused_as fault ≡ unknown
unknown_by c text fault is h =
    ap refused_as (same_fault c text fault is (subst (λ b. IsRefusedAs b c text fault) (sheet_no_rounds (bare (kept_readable text)) is) h))

pub ends_unknown : (c : Circuit) (text : List ℕ) (r : Result TextJudged TextEnd) → opens_as_sheet text ≡ true → OtherDecides c text r → r ≡ unknown
ends_unknown c text (Ok judged) is good = absurd (no_other c text judged is good)
ends_unknown c text (Err (text_ends.Answer (answer_ends.Refused fault))) is h = unknown_by c text fault is h
ends_unknown c text (Err (text_ends.Answer answer_ends.ReadFault)) is h = absurd h
ends_unknown c text (Err (text_ends.Answer answer_ends.Memory)) is h = absurd h
ends_unknown c text (Err (text_ends.TooLarge variable)) is h = absurd (false≢true (sym (sheet_no_rounds (bare (kept_readable text)) is) ∙ h.0))

-- and the end that it comes to there
pub sheet_decides : (c : Circuit) (text : List ℕ) → opens_as_sheet text ≡ true → OtherDecides c text unknown
sheet_decides c text is = subst (λ b. IsRefusedAs b c text UnknownStatus) (sym (sheet_no_rounds (bare (kept_readable text)) is)) (sheet_fault c text is)

-- ---- a text whose status is known

known_decided : (c : Circuit) (text : List ℕ) (r : Result TextJudged TextEnd) (test : Bool) → opens_as_sheet text ≡ test → (r ≡ unknown → ⊥) → OtherDecides c text r
    → Decides c text (as_text r)
known_decided c text r false is known h = as_decided c text r is h
known_decided c text r true is known h = absurd (known (ends_unknown c text r is h))

pub known_found : (c : Circuit) (held : Option (List ℕ)) (r : Result TextJudged TextEnd) → (r ≡ unknown → ⊥) → OtherSays c held r → JudgeSays c held (as_text r)
known_found c held r known (inl (inl unread)) = inl (inl (ap as_text unread))
known_found c held r known (inl (inr (text, may, h))) = inl (inr (text, may, known_decided c text r (opens_as_sheet text) refl known h))
known_found c held r known (inr none) = inr (ap as_text none)

no_end : (r : Result TextJudged TextEnd) (verdict : Result Judged JudgeEnd) → (r ≡ unknown → ⊥) → OtherEndsWith r unknown → EndsWith (as_text r) verdict
no_end r verdict known (inl (inl equal)) = absurd (known equal)
no_end r verdict known (inl (inr unread)) = inl (inr (ap as_text unread))
no_end r verdict known (inr none) = inr (ap as_text none)

known_by : (c : Circuit) (r : Result TextJudged TextEnd) (text : List ℕ) (verdict : Result Judged JudgeEnd) (test : Bool) → opens_as_sheet text ≡ test → (r ≡ unknown → ⊥)
    → ((end : Result TextJudged TextEnd) → OtherDecides c text end → OtherEndsWith r end) → Decides c text verdict → EndsWith (as_text r) verdict
known_by c r text verdict false is known each h =
    let (end, same, decides) = other_decides c text verdict is h in
    same_end r end verdict same (each end decides)
known_by c r text verdict true is known each h = no_end r verdict known (each unknown (sheet_decides c text is))

pub known_exactly : (c : Circuit) (held : Option (List ℕ)) (r : Result TextJudged TextEnd) → (r ≡ unknown → ⊥)
    → ((text : List ℕ) (verdict : Result TextJudged TextEnd) → held ≡ Some text → OtherDecides c text verdict → OtherEndsWith r verdict)
    → (text : List ℕ) (verdict : Result Judged JudgeEnd) → held ≡ Some text → Decides c text verdict → EndsWith (as_text r) verdict
known_exactly c held r known each text verdict is h = known_by c r text verdict (opens_as_sheet text) refl known (λ end decides. each text end is decides) h

pub known_shows : (c : Circuit) (r : Result TextJudged TextEnd) → IfOk r (OtherShows c) → IfOk (as_text r) (ShowsText c)
known_shows c (Ok judged) shows = shows
known_shows c (Err end) shows = tt

pub known_unread : (r : Result TextJudged TextEnd) → other_unread r ≡ has_unread {T = Judged} (as_text r)
known_unread (Ok judged) = refl
known_unread (Err (text_ends.Answer (answer_ends.Refused fault))) = refl
known_unread (Err (text_ends.Answer answer_ends.ReadFault)) = refl
known_unread (Err (text_ends.Answer answer_ends.Memory)) = refl
known_unread (Err (text_ends.TooLarge variable)) = refl

text_of : (a b : TextEnd) → ◌≡◌ {A = Result Judged JudgeEnd} (Err (ends.Text a)) (Err (ends.Text b)) → a ≡ b
text_of a b e = cc

abbrev as_err : TextEnd → Result TextJudged TextEnd
as_err end = Err end

pub known_read : (r : Result TextJudged TextEnd) → as_text r ≡ read_fault → r ≡ other_read_fault
known_read (Ok judged) e = absurd (cc e)
known_read (Err end) e = ap as_err (text_of end (text_ends.Answer answer_ends.ReadFault) e)

pub unknown_unread : (r : Result TextJudged TextEnd) → r ≡ unknown → other_unread r ≡ false
unknown_unread r is = ap other_unread is

pub unknown_of : (c : Circuit) (held : Option (List ℕ)) (r : Result TextJudged TextEnd) → r ≡ unknown → OtherSays c held r
    → ((text : List ℕ) (verdict : Result TextJudged TextEnd) → held ≡ Some text → OtherDecides c text verdict → OtherEndsWith r verdict) → IsUnknown c held
unknown_of c held r is says each = record {
  says = subst (λ (s : Result TextJudged TextEnd). OtherSays c held s) is says;
  exactly = λ text verdict told decides. subst (λ (s : Result TextJudged TextEnd). OtherEndsWith s verdict) is (each text verdict told decides);
}
