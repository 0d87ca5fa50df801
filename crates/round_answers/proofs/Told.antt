-- What is told of the text at each end of its reading.
use Rattle.std.proofs.Common.{◌≡◌, ℕ, ◌≤◌, inl, inr, Bool, true, false, List, [], ◌∷◌, refl, sym, ap, subst, Option, Some, None, Result, Ok, Err}
use Rattle.std.specs.Prelude.{IfErr}
use Rattle.aig_semantics.specs.Circuits.{Circuit}
use Rattle.edge.specs.Told.{IfTold}
use Rattle.text_grammar.specs.Pieces.{Lacks}
use Rattle.answer_lines.specs.Left.{Reading, left_of, most_bytes, Took}
use Rattle.stimulus.specs.Texts.{is_skipped}
use Rattle.certificate.specs.declared.ends.AnswerFault.{AnswerFault}
use Rattle.certificate.specs.declared.ends.AnswerFault.TheVariants.{TooLong}
use Rattle.certificate.specs.declared.ends.AnswerEnd.TheVariants as ends
use Rattle.certificate.specs.Lines.{kept_from}
use Rattle.certificate.specs.Reading.{opens_rounds}
use Rattle.unless_memory.specs.Answers.{Gives, GivesSome}
use Rattle.round_answers.specs.declared.ends.Judged.{Judged}
use Rattle.round_answers.specs.declared.ends.JudgeEnd.{JudgeEnd}
use Rattle.round_answers.specs.declared.ends.JudgeEnd.TheVariants.{Answer, TooLarge as LargerThan}
use Rattle.round_answers.specs.Reading.{State, First, Stop, Fault, TooLarge, read_lines}
use Rattle.round_answers.specs.Telling.{TellsEnd}
use Rattle.round_answers.specs.Ends.{ReadsAs, Decides, JudgeSays, EndsWith, no_memory, read_fault, has_unread}
use Rattle.round_answers.specs.First.{is_about, IsLater, IsAnyway, IsEnd, OfLines, OfStop, Says, TellsText, is_unread, IsUnknown, unknown_status, as_told}
use Rattle.round_answers.proofs.Ended.{refused}
use Rattle.round_answers.proofs.Reached.{Reached, stop_said, long_said, end_said}
use Rattle.round_answers.proofs.GoodTexts.{decided, decides_reads, other_found, other_exactly}

-- ---- the ends of the reading

pub lines_told : (c : Circuit) (told : Option (List ℕ)) (r : Reading) (s : State) (number : ℕ) (end : JudgeEnd) → Reached c told r s number → r.taken ≤ most_bytes → OfLines s told r end
    → TellsText c told (Err end)
lines_told c told r s number (Answer (ends.Refused fault)) reached most (is, later, goes_on, long) =
    subst (λ (f : AnswerFault). Says c told (refused f)) (sym is) (long_said c told r s number reached later goes_on most long)
lines_told c told r s number (Answer ends.ReadFault) reached most of = tt
lines_told c told r s number (Answer ends.Memory) reached most of = tt
lines_told c told r s number (LargerThan variable) reached most of = absurd of

pub stop_told : (c : Circuit) (told : Option (List ℕ)) (old new : Reading) (s : State) (number : ℕ) (end : JudgeEnd) → Reached c told old s number → old.last ≡ false → Took told old new
    → Lacks new.line 10 → new.taken ≤ most_bytes → IsAnyway s (is_skipped new.line) (opens_rounds new.line)
    → OfStop (λ stop. read_lines c s (kept_from number (new.line ∷ [])) ≡ Err stop) end → TellsText c told (Err end)
stop_told c told old new s number (Answer (ends.Refused fault)) reached goes_on took lacks most anyway of =
    stop_said c told old new s number (Fault fault) reached goes_on took lacks most anyway of
stop_told c told old new s number (Answer ends.ReadFault) reached goes_on took lacks most anyway of = absurd of
stop_told c told old new s number (Answer ends.Memory) reached goes_on took lacks most anyway of = tt
stop_told c told old new s number (LargerThan variable) reached goes_on took lacks most anyway of =
    stop_said c told old new s number (TooLarge variable) reached goes_on took lacks most anyway of

-- behind a line of the rounds the text itself ends
pub left_nothing : (s : State) (told : Option (List ℕ)) (r : Reading) → IsLater s → IsEnd s told r → IfTold told (λ text. left_of r text ≡ [])
left_nothing s told r later (inl end) = end
left_nothing s told r later (inr (first, goes_on, long)) = absurd (subst IsLater first later)

pub good_told : (c : Circuit) (told : Option (List ℕ)) (r : Reading) (s : State) (number : ℕ) (judged : Judged) → Reached c told r s number → IsLater s → r.taken ≤ most_bytes
    → IfTold told (λ text. left_of r text ≡ []) → TellsEnd c s number (Ok judged) → TellsText c told (Ok (Some judged))
good_told c told r s number judged reached later most none tells = end_said c told r s number (Ok judged) reached later most none tells

pub end_told : (c : Circuit) (told : Option (List ℕ)) (r : Reading) (s : State) (number : ℕ) (end : JudgeEnd) → Reached c told r s number → IsLater s → r.taken ≤ most_bytes
    → IfTold told (λ text. left_of r text ≡ []) → TellsEnd c s number (Err end) → TellsText c told (Err end)
end_told c told r s number (Answer (ends.Refused fault)) reached later most none tells = end_said c told r s number (refused fault) reached later most none tells
end_told c told r s number (Answer ends.ReadFault) reached later most none tells = tt
end_told c told r s number (Answer ends.Memory) reached later most none tells = tt
end_told c told r s number (LargerThan variable) reached later most none tells = absurd tells

pub stop_unread : (P : Stop → Type 0) (end : JudgeEnd) → OfStop P end → is_unread {T = Option Judged} (Err end) ≡ false
stop_unread P (Answer (ends.Refused fault)) of = refl
stop_unread P (Answer ends.ReadFault) of = absurd of
stop_unread P (Answer ends.Memory) of = refl
stop_unread P (LargerThan variable) of = refl

pub end_unread : (c : Circuit) (s : State) (number : ℕ) (end : JudgeEnd) → TellsEnd c s number (Err end) → is_unread {T = Option Judged} (Err end) ≡ false
end_unread c s number (Answer (ends.Refused fault)) tells = refl
end_unread c s number (Answer ends.ReadFault) tells = absurd tells
end_unread c s number (Answer ends.Memory) tells = refl
end_unread c s number (LargerThan variable) tells = refl

-- ---- what it says of the text

says : (c : Circuit) (held : Option (List ℕ)) (result : Result Judged JudgeEnd) → Says c held result → JudgeSays c held result
says c held result (text, may, about, decides) = by decides.found
  where
    by : GivesSome no_memory (ReadsAs c text) result → JudgeSays c held result
    by (inl reads) = inl (inr (text, may, decided c text result about reads))
    by (inr none) = inr none

exactly : (c : Circuit) (held : Option (List ℕ)) (result : Result Judged JudgeEnd) → Says c held result → (text : List ℕ) (verdict : Result Judged JudgeEnd) → held ≡ Some text
    → Decides c text verdict → EndsWith result verdict
exactly c held result (found, may, about, decides) text verdict is h =
    by (decides.exactly verdict (subst (λ (bytes : List ℕ). ReadsAs c bytes verdict) (may text is) (decides_reads c text verdict (subst (λ (bytes : List ℕ). is_about bytes ≡ true) (sym (may text is)) about) h)))
  where
    by : Gives no_memory verdict result → EndsWith result verdict
    by (inl same) = inl (inl same)
    by (inr none) = inr none

-- an answer about rounds
pub some_says : (c : Circuit) (held : Option (List ℕ)) (judged : Judged) → TellsText c held (Ok (Some judged)) → JudgeSays c held (Ok judged)
some_says c held judged told = says c held (Ok judged) told

pub some_exactly : (c : Circuit) (held : Option (List ℕ)) (judged : Judged) → TellsText c held (Ok (Some judged)) → (text : List ℕ) (verdict : Result Judged JudgeEnd) → held ≡ Some text
    → Decides c text verdict → EndsWith (Ok judged) verdict
some_exactly c held judged told = exactly c held (Ok judged) told

pub err_says : (c : Circuit) (held : Option (List ℕ)) (end : JudgeEnd) → TellsText c held (Err end) → JudgeSays c held (Err end)
err_says c held (Answer (ends.Refused fault)) told = says c held (refused fault) told
err_says c held (Answer ends.ReadFault) told = inl (inl refl)
err_says c held (Answer ends.Memory) told = inr refl
err_says c held (LargerThan variable) told = says c held (Err (LargerThan variable)) told

pub err_exactly : (c : Circuit) (held : Option (List ℕ)) (end : JudgeEnd) → TellsText c held (Err end) → (text : List ℕ) (verdict : Result Judged JudgeEnd) → held ≡ Some text
    → Decides c text verdict → EndsWith (Err end) verdict
err_exactly c held (Answer (ends.Refused fault)) told = exactly c held (refused fault) told
err_exactly c held (Answer ends.ReadFault) told = λ text verdict is h. inl (inr refl)
err_exactly c held (Answer ends.Memory) told = λ text verdict is h. inr refl
err_exactly c held (LargerThan variable) told = exactly c held (Err (LargerThan variable)) told

-- a failed read of the first pass is one of the call
pub same_unread : (end : JudgeEnd) → has_unread (Err end) ≡ is_unread {T = Option Judged} (Err end)
same_unread (Answer (ends.Refused fault)) = refl
same_unread (Answer ends.ReadFault) = refl
same_unread (Answer ends.Memory) = refl
same_unread (LargerThan variable) = refl

-- ---- of a text whose status as an answer is unknown

pub told_found : (c : Circuit) (held : Option (List ℕ)) (r : Result (Option Judged) JudgeEnd) → IsUnknown c held → TellsText c held r → JudgeSays c held (as_told r)
told_found c held (Ok (Some judged)) unknown told = some_says c held judged told
told_found c held (Ok None) unknown told = other_found c held unknown_status told unknown.says
told_found c held (Err end) unknown told = err_says c held end told

pub told_exactly : (c : Circuit) (held : Option (List ℕ)) (r : Result (Option Judged) JudgeEnd) → IsUnknown c held → TellsText c held r → (text : List ℕ) (verdict : Result Judged JudgeEnd)
    → held ≡ Some text → Decides c text verdict → EndsWith (as_told r) verdict
told_exactly c held (Ok (Some judged)) unknown told = some_exactly c held judged told
told_exactly c held (Ok None) unknown told = other_exactly c held unknown_status told unknown.exactly
told_exactly c held (Err end) unknown told = err_exactly c held end told

pub told_unread : (r : Result (Option Judged) JudgeEnd) → is_unread r ≡ has_unread (as_told r)
told_unread (Ok (Some judged)) = refl
told_unread (Ok None) = refl
told_unread (Err end) = sym (same_unread end)

abbrev as_read : JudgeEnd → Result (Option Judged) JudgeEnd
as_read end = Err end

same_end : (a b : JudgeEnd) → ◌≡◌ {A = Result Judged JudgeEnd} (Err a) (Err b) → a ≡ b
same_end a b e = cc

pub told_read : (r : Result (Option Judged) JudgeEnd) → as_told r ≡ read_fault → r ≡ Err (Answer ends.ReadFault)
told_read (Ok (Some judged)) e = absurd (cc e)
told_read (Ok None) e = absurd (cc e)
told_read (Err end) e = ap as_read (same_end end (Answer ends.ReadFault) e)
