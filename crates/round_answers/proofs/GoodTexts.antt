-- A text about rounds is read as good exactly where it is good, and other texts are judged as answers.
use Rattle.std.proofs.Common.{◌≡◌, inl, inr, ℕ, ◌≤◌, Bool, true, false, List, [], ◌∷◌, length, take, refl, sym, ap, subst, ◌∙◌, Option, Some, None, Result, Ok, Err}
use Rattle.std.specs.Prelude.{codes, IfOk}
use Rattle.std.specs.Str.{bytes_eq}
use Rattle.std.proofs.lemmas.Bool.{false≢true, true≢false}
use Rattle.std.proofs.lemmas.Slice.Eq.{bytes_eq-Decides}
use Rattle.aig_semantics.specs.Circuits.{Circuit}
use Rattle.answer_lines.specs.Left.{most_bytes}
use Rattle.edge.specs.Told.{MayBe}
use Rattle.certificate.specs.declared.ends.Accepted.{Accepted}
use Rattle.certificate.specs.declared.ends.Accepted.TheVariants.{Lasso, Holds}
use Rattle.certificate.specs.declared.ends.AnswerFault.{AnswerFault}
use Rattle.certificate.specs.declared.ends.AnswerFault.TheVariants.{UnknownStatus}
use Rattle.certificate.specs.declared.ends.AnswerEnd.{AnswerEnd}
use Rattle.certificate.specs.declared.ends.AnswerEnd.TheVariants as ends
use Rattle.certificate.specs.Lines.{Numbered, kept_in, kept_readable, bare}
use Rattle.certificate_texts.specs.Writing.{property_line}
use Rattle.certificate.specs.Answers.{IsGood, Shows}
use Rattle.certificate.specs.Ends.{IsFirstFault as IsAnswersFault, IsRefused, DecidesEnd, CheckSays, EndsWith as AnswerEndsWith}
use Rattle.certificate.specs.Ends.{has_unread as answer_unread}
use Rattle.certificate.specs.Reading.{opens_rounds}
use Rattle.certificate.specs.Reading as answers
use Rattle.certificate.proofs.GoodRead.{all_readable, good_short as answer_short}
use Rattle.round_answers.specs.declared.ends.Judged.{Judged}
use Rattle.round_answers.specs.declared.ends.Judged.TheVariants.{Answer as Answered, Rounds}
use Rattle.round_answers.specs.declared.ends.JudgeEnd.{JudgeEnd}
use Rattle.round_answers.specs.declared.ends.JudgeEnd.TheVariants.{Answer, TooLarge as LargerThan}
use Rattle.round_answers.specs.Texts.{rounds_line, is_about_rounds}
use Rattle.round_answers.specs.Answers.{IsGoodAbout, IsGoodText, ShowsText}
use Rattle.round_answers.specs.Reading.{State, First, read_lines}
use Rattle.round_answers.specs.Ends.{IsGoodAtEnd, IsRefusedAs, ReadsAs, Decides, JudgeSays, EndsWith, has_unread, read_fault}
use Rattle.round_answers.specs.First.{is_about, IsOther, IsUnknown, as_judged, unknown_status}
use Rattle.round_answers.proofs.GoodLines.{FromFirst, first_back, first_on}

-- ---- good texts

module _ (c : Circuit) (text : List ℕ) (short : length text ≤ most_bytes) where
  same_lines : bare (kept_readable text) ≡ bare (kept_in text)
  same_lines = ap bare (all_readable text short)

  said : (judged : Judged) → FromFirst c (bare (kept_in text)) judged → IsGoodText c text judged
  said (Answered accepted) (k, others, may, spelled, (n, more, small, able, behind, never)) = absurd never
  said (Rounds m e true) (k, others, may, spelled, (n, more, small, able, behind, (a, b, (stimulus, rows, left, spells, reached)))) =
      let opens : bare (kept_in text) ≡ rounds_line k ∷ property_line n ∷ codes "run" ∷ rows =
      spelled ∙ ap (λ ls. rounds_line k ∷ ls) (behind ∙ ap (λ ls. property_line n ∷ ls) left) in
      subst (λ x. IsGoodAbout c text x e true) (sym a)
      (subst (λ x. IsGoodAbout c text n x true) (sym b) (may, able, short, stimulus, (rows, (small, opens), spells), reached))
  said (Rounds m e false) (k, others, may, spelled, (n, more, small, able, behind, (a, b, (certificate, left, fewer)))) =
      let opens = spelled ∙ ap (λ ls. rounds_line k ∷ ls) (behind ∙ ap (λ ls. property_line n ∷ ls) left) in
      subst (λ x. IsGoodAbout c text x e false) (sym a)
      (subst (λ x. IsGoodAbout c text n x false) (sym b) (may, able, short, certificate, (small, opens), fewer))

  told : (n k : ℕ) (reached : Bool) → IsGoodAbout c text n k reached → FromFirst c (bare (kept_in text)) (Rounds n k reached)
  told n k true (may, able, _, stimulus, (rows, (small, opens), spells), reached) =
      (k, property_line n ∷ codes "run" ∷ rows, may, opens, (n, codes "run" ∷ rows, small, able, refl, (refl, refl, (stimulus, rows, refl, spells, reached))))
  told n k false (may, able, _, certificate, (small, opens), fewer) =
      (k, property_line n ∷ _, may, opens, (n, _, small, able, refl, (refl, refl, (certificate, refl, fewer))))

  good_reads : (n k : ℕ) (reached : Bool) → IsGoodAbout c text n k reached → ReadsAs c text (Ok (Rounds n k reached))
  good_reads n k reached good =
      let well = first_on c (kept_readable text) (Rounds n k reached) (subst (λ ls. FromFirst c ls (Rounds n k reached)) (sym same_lines) (told n k reached good)) in
      (short, well.0, well.1, well.2)

  reads_good : (judged : Judged) (s : State) → read_lines c First (kept_readable text) ≡ Ok s → IsGoodAtEnd c s judged → IsGoodText c text judged
  reads_good judged s read good = said judged (subst (λ ls. FromFirst c ls judged) same_lines (first_back c (kept_readable text) judged (s, read, good)))

good_short : (c : Circuit) (text : List ℕ) (n k : ℕ) (reached : Bool) → IsGoodAbout c text n k reached → length text ≤ most_bytes
good_short c text n k true h = h.2
good_short c text n k false h = h.2

-- ---- a text about rounds

pub decided : (c : Circuit) (text : List ℕ) (end : Result Judged JudgeEnd) → is_about text ≡ true → ReadsAs c text end → Decides c text end
decided c text (Ok judged) about (short, s, read, good) = reads_good c text short judged s read good
decided c text (Err (Answer (ends.Refused fault))) about reads = subst (λ b. IsRefusedAs b c text fault) (sym about) reads
decided c text (Err (Answer ends.ReadFault)) about reads = reads
decided c text (Err (Answer ends.Memory)) about reads = reads
decided c text (Err (LargerThan variable)) about reads = (about, reads)

pub no_answer : (c : Circuit) (text : List ℕ) (accepted : Accepted) → is_about text ≡ true → IsGoodText c text (Answered accepted) → ⊥
no_answer c text accepted about (other, good) =
    false≢true (sym other ∙ ap is_about_rounds (sym (same_lines c text (answer_short c text accepted good))) ∙ about)

pub decides_reads : (c : Circuit) (text : List ℕ) (end : Result Judged JudgeEnd) → is_about text ≡ true → Decides c text end → ReadsAs c text end
decides_reads c text (Ok (Answered accepted)) about good = absurd (no_answer c text accepted about good)
decides_reads c text (Ok (Rounds n k reached)) about good = good_reads c text (good_short c text n k reached good) n k reached good
decides_reads c text (Err (Answer (ends.Refused fault))) about h = subst (λ b. IsRefusedAs b c text fault) about h
decides_reads c text (Err (Answer ends.ReadFault)) about h = h
decides_reads c text (Err (Answer ends.Memory)) about h = h
decides_reads c text (Err (LargerThan variable)) about h = h.1

-- ---- another text

one_lines : (a : List ℕ) (lines others : List (List ℕ)) → lines ≡ a ∷ others → is_about_rounds lines ≡ opens_rounds a
one_lines a lines others e = ap is_about_rounds e

good_is_other : (c : Circuit) (text : List ℕ) (accepted : Accepted) → IsGood c text accepted → is_about_rounds (bare (kept_in text)) ≡ false
good_is_other c text (Lasso n positions from) (_, _, stimulus, (others, (small, opens), spells), stands) = ap is_about_rounds opens
good_is_other c text (Holds n entries) (_, _, certificate, (small, opens), good, count) = ap is_about_rounds opens

as_decided : (c : Circuit) (text : List ℕ) (end : Result Accepted AnswerEnd) → is_about text ≡ false → DecidesEnd c text end → Decides c text (as_judged end)
as_decided c text (Ok accepted) other good = (good_is_other c text accepted good, good)
as_decided c text (Err (ends.Refused fault)) other h = subst (λ b. IsRefusedAs b c text fault) (sym other) h
as_decided c text (Err ends.ReadFault) other h = h
as_decided c text (Err ends.Memory) other h = h

-- a text about rounds is no answer, and any shelf that may hold it may hold another of unknown status
first_unknown : (line : Numbered) → opens_rounds line.1 ≡ true → answers.status_step line.0 line.1 ≡ Err UnknownStatus
first_unknown line h =
    let front : take 6 line.1 ≡ codes "rounds" = (bytes_eq-Decides (take 6 line.1) (codes "rounds")).0 h in
    let apart : (word : List ℕ) → (take 6 word ≡ codes "rounds" → ⊥) → bytes_eq line.1 word ≡ false = λ word differs. other_word line.1 word (bytes_eq line.1 word) refl front differs in
    rw (apart (codes "1") (λ e. cc)) (rw (apart (codes "0") (λ e. cc)) (rw (apart (codes "2") (λ e. cc)) (rw h refl)))
  where
    other_word : (line word : List ℕ) (t : Bool) → bytes_eq line word ≡ t → take 6 line ≡ codes "rounds" → (take 6 word ≡ codes "rounds" → ⊥) → bytes_eq line word ≡ false
    other_word line word false is front differs = is
    other_word line word true is front differs = absurd (differs (ap (take 6) (sym ((bytes_eq-Decides line word).0 is)) ∙ front))

about_unknown : (c : Circuit) (lines : List Numbered) → is_about_rounds (bare lines) ≡ true → answers.read_lines c answers.Status lines ≡ Err UnknownStatus
about_unknown c [] h = absurd (false≢true h)
about_unknown c (line ∷ lines) h = ap (λ (r : answers.Stepped). answers.and_then r (λ t. answers.read_lines c t lines)) (first_unknown line h)

unknown_two : (c : Circuit) → IsRefused c (codes "2") UnknownStatus
unknown_two c = refl

unknown_fault : (c : Circuit) (text : List ℕ) (fault : AnswerFault) → is_about text ≡ true → IsRefused c text fault → fault ≡ UnknownStatus
unknown_fault c text fault about h = subst (λ r. IsAnswersFault c text r fault) (about_unknown c (kept_readable text) about) h

other_said : (c : Circuit) (text : List ℕ) (end : Result Accepted AnswerEnd) (test : Bool) → is_about text ≡ test → DecidesEnd c text end
    → (found : List ℕ) × Decides c found (as_judged end)
other_said c text end false is h = (text, as_decided c text end is h)
other_said c text (Ok accepted) true is h =
    absurd (false≢true (sym (good_is_other c text accepted h) ∙ ap is_about_rounds (sym (same_lines c text (answer_short c text accepted h))) ∙ is))
other_said c text (Err (ends.Refused fault)) true is h =
    (codes "2", subst (λ f. Decides c (codes "2") (Err (Answer (ends.Refused f)))) (sym (unknown_fault c text fault is h)) (unknown_two c))
other_said c text (Err ends.ReadFault) true is h = absurd h
other_said c text (Err ends.Memory) true is h = absurd h

by_told : (c : Circuit) (held : Option (List ℕ)) (text : List ℕ) (end : Result Accepted AnswerEnd) → IsOther held → MayBe held text → DecidesEnd c text end
    → (found : List ℕ) × MayBe held found × Decides c found (as_judged end)
by_told c None text end other may h =
    let one = other_said c text end (is_about text) refl h in
    (one.0, λ x e. absurd (cc e), one.1)
by_told c (Some held) text end other may h =
    let same : held ≡ text = may held refl in
    (text, may, as_decided c text end (ap is_about (sym same) ∙ other held refl) h)

pub other_found : (c : Circuit) (held : Option (List ℕ)) (result : Result Accepted AnswerEnd) → IsOther held → CheckSays c held result → JudgeSays c held (as_judged result)
other_found c held result other (inl (inl unread)) = inl (inl (ap as_judged unread))
other_found c held result other (inl (inr (text, may, h))) = inl (inr (by_told c held text result other may h))
other_found c held result other (inr none) = inr (ap as_judged none)

-- what such a text decides is an answer's end
other_decides : (c : Circuit) (text : List ℕ) (verdict : Result Judged JudgeEnd) → is_about text ≡ false → Decides c text verdict
    → (end : Result Accepted AnswerEnd) × (as_judged end ≡ verdict) × DecidesEnd c text end
other_decides c text (Ok (Answered accepted)) other h = (Ok accepted, refl, h.1)
other_decides c text (Ok (Rounds n k reached)) other good =
    absurd (true≢false (sym (about_good (told c text (good_short c text n k reached good) n k reached good)) ∙ ap is_about_rounds (sym (same_lines c text (good_short c text n k reached good))) ∙ other))
  where
    about_good : FromFirst c (bare (kept_in text)) (Rounds n k reached) → is_about_rounds (bare (kept_in text)) ≡ true
    about_good (m, others, may, spelled, from) = ap is_about_rounds spelled
other_decides c text (Err (Answer (ends.Refused fault))) other h = (Err (ends.Refused fault), refl, subst (λ b. IsRefusedAs b c text fault) other h)
other_decides c text (Err (Answer ends.ReadFault)) other h = absurd h
other_decides c text (Err (Answer ends.Memory)) other h = absurd h
other_decides c text (Err (LargerThan variable)) other h = absurd (true≢false (sym h.0 ∙ other))

-- an answer's end is one of the text that it is judged as
same_end : (r end : Result Accepted AnswerEnd) (verdict : Result Judged JudgeEnd) → as_judged end ≡ verdict → AnswerEndsWith r end → EndsWith (as_judged r) verdict
same_end r end verdict same (inl (inl equal)) = inl (inl (ap as_judged equal ∙ same))
same_end r end verdict same (inl (inr unread)) = inl (inr (ap as_judged unread))
same_end r end verdict same (inr none) = inr (ap as_judged none)

pub other_exactly : (c : Circuit) (held : Option (List ℕ)) (result : Result Accepted AnswerEnd) → IsOther held
    → ((text : List ℕ) (verdict : Result Accepted AnswerEnd) → held ≡ Some text → DecidesEnd c text verdict → AnswerEndsWith result verdict)
    → (text : List ℕ) (verdict : Result Judged JudgeEnd) → held ≡ Some text → Decides c text verdict → EndsWith (as_judged result) verdict
other_exactly c held result other each text verdict is h =
    let (end, same, decides) = other_decides c text verdict (other text is) h in
    same_end result end verdict same (each text end is decides)

-- ---- a text whose status is known

about_refused : (c : Circuit) (text : List ℕ) → is_about text ≡ true → IsRefused c text UnknownStatus
about_refused c text about = subst (λ r. IsAnswersFault c text r UnknownStatus) (sym (about_unknown c (kept_readable text) about)) refl

abbrev as_fault : AnswerFault → Result Accepted AnswerEnd
as_fault fault = Err (ends.Refused fault)

known_decided : (c : Circuit) (text : List ℕ) (r : Result Accepted AnswerEnd) (test : Bool) → is_about text ≡ test → (r ≡ unknown_status → ⊥) → DecidesEnd c text r → Decides c text (as_judged r)
known_decided c text r false is known h = as_decided c text r is h
known_decided c text (Ok accepted) true is known h =
    absurd (false≢true (sym (good_is_other c text accepted h) ∙ ap is_about_rounds (sym (same_lines c text (answer_short c text accepted h))) ∙ is))
known_decided c text (Err (ends.Refused fault)) true is known h = absurd (known (ap as_fault (unknown_fault c text fault is h)))
known_decided c text (Err ends.ReadFault) true is known h = absurd h
known_decided c text (Err ends.Memory) true is known h = absurd h

pub known_found : (c : Circuit) (held : Option (List ℕ)) (r : Result Accepted AnswerEnd) → (r ≡ unknown_status → ⊥) → CheckSays c held r → JudgeSays c held (as_judged r)
known_found c held r known (inl (inl unread)) = inl (inl (ap as_judged unread))
known_found c held r known (inl (inr (text, may, h))) = inl (inr (text, may, known_decided c text r (is_about text) refl known h))
known_found c held r known (inr none) = inr (ap as_judged none)

-- a text about rounds would end so
no_end : (r : Result Accepted AnswerEnd) (verdict : Result Judged JudgeEnd) → (r ≡ unknown_status → ⊥) → AnswerEndsWith r unknown_status → EndsWith (as_judged r) verdict
no_end r verdict known (inl (inl equal)) = absurd (known equal)
no_end r verdict known (inl (inr unread)) = inl (inr (ap as_judged unread))
no_end r verdict known (inr none) = inr (ap as_judged none)

known_by : (c : Circuit) (r : Result Accepted AnswerEnd) (text : List ℕ) (verdict : Result Judged JudgeEnd) (test : Bool) → is_about text ≡ test → (r ≡ unknown_status → ⊥)
    → ((end : Result Accepted AnswerEnd) → DecidesEnd c text end → AnswerEndsWith r end) → Decides c text verdict → EndsWith (as_judged r) verdict
known_by c r text verdict false is known each h =
    let (end, same, decides) = other_decides c text verdict is h in
    same_end r end verdict same (each end decides)
known_by c r text verdict true is known each h = no_end r verdict known (each unknown_status (about_refused c text is))

pub known_exactly : (c : Circuit) (held : Option (List ℕ)) (r : Result Accepted AnswerEnd) → (r ≡ unknown_status → ⊥)
    → ((text : List ℕ) (verdict : Result Accepted AnswerEnd) → held ≡ Some text → DecidesEnd c text verdict → AnswerEndsWith r verdict)
    → (text : List ℕ) (verdict : Result Judged JudgeEnd) → held ≡ Some text → Decides c text verdict → EndsWith (as_judged r) verdict
known_exactly c held r known each text verdict is h = known_by c r text verdict (is_about text) refl known (λ end decides. each text end is decides) h

pub known_shows : (c : Circuit) (r : Result Accepted AnswerEnd) → IfOk r (Shows c) → IfOk (as_judged r) (ShowsText c)
known_shows c (Ok accepted) shows = shows
known_shows c (Err end) shows = tt

pub known_unread : (r : Result Accepted AnswerEnd) → answer_unread r ≡ has_unread (as_judged r)
known_unread (Ok accepted) = refl
known_unread (Err (ends.Refused fault)) = refl
known_unread (Err ends.ReadFault) = refl
known_unread (Err ends.Memory) = refl

pub known_read : (r : Result Accepted AnswerEnd) → as_judged r ≡ read_fault → r ≡ Err ends.ReadFault
known_read (Ok accepted) e = absurd (cc)
known_read (Err end) e = cc

-- ---- a text whose status is not

pub unknown_of : (c : Circuit) (held : Option (List ℕ)) (r : Result Accepted AnswerEnd) → r ≡ unknown_status → CheckSays c held r
    → ((text : List ℕ) (verdict : Result Accepted AnswerEnd) → held ≡ Some text → DecidesEnd c text verdict → AnswerEndsWith r verdict) → IsUnknown c held
unknown_of c held r is says each = record {
  says = subst (λ (s : Result Accepted AnswerEnd). CheckSays c held s) is says;
  exactly = λ text verdict told decides. subst (λ (s : Result Accepted AnswerEnd). AnswerEndsWith s verdict) is (each text verdict told decides);
}
