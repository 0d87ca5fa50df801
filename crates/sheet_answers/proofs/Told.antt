-- What is told of the text at each end of its reading.
use Rattle.std.proofs.Common.{◌≡◌, ◌⊎◌, ℕ, ◌≤◌, inl, inr, true, false, List, [], ◌∷◌, refl, sym, ap, subst, ◌∙◌, Option, Some, None, Result, Ok, Err}
use Rattle.std.specs.Prelude.{IfOk, codes}
use Rattle.aig_semantics.specs.Circuits.{Circuit}
use Rattle.edge.specs.Told.{IfTold, MayBe}
use Rattle.text_grammar.specs.Pieces.{Lacks}
use Rattle.answer_lines.specs.Left.{Reading, left_of, most_bytes, Took}
use Rattle.stimulus.specs.Texts.{is_skipped}
use Rattle.unless_memory.specs.Answers.{Gives, GivesSome}
use Rattle.certificate.specs.declared.ends.AnswerEnd.TheVariants as answer_ends
use Rattle.certificate.specs.Lines.{kept_from, kept_readable}
use Rattle.round_answers.specs.declared.ends.Judged.{Judged as TextJudged}
use Rattle.round_answers.specs.declared.ends.JudgeEnd.{JudgeEnd as TextEnd}
use Rattle.round_answers.specs.declared.ends.JudgeEnd.TheVariants as text_ends
use Rattle.round_answers.specs.Ends.{Decides as OtherDecides, JudgeSays as OtherSays, EndsWith as OtherEndsWith}
use Rattle.sheet_answers.specs.declared.ends.Judged.{Judged}
use Rattle.sheet_answers.specs.declared.ends.Judged.TheVariants.{Text, Sheet}
use Rattle.sheet_answers.specs.declared.ends.JudgeEnd.{JudgeEnd}
use Rattle.sheet_answers.specs.declared.ends.JudgeEnd.TheVariants as ends
use Rattle.sheet_answers.specs.declared.found.Accepted.{Accepted}
use Rattle.sheet_answers.specs.declared.found.Found.{Found}
use Rattle.sheet_answers.specs.declared.found.Found.TheVariants as finds
use Rattle.sheet_answers.specs.Reading.{State, First, Fault, Plain, InBlock, Replays, read_lines, opens_as_sheet}
use Rattle.certificate.specs.Reading.{opens_sheet}
use Rattle.sheet_answers.specs.Ends.{ShowsText, AreReplays, IsFirstFault, IsRefused, TellsFault, RefusesAs, Decides, JudgeSays, EndsWith, refused_memory, read_fault, has_unread, end_unread}
use Rattle.sheet_answers.specs.Seen.{OfEnd, TellsEnd}
use Rattle.sheet_answers.specs.First.{as_text, as_told, unknown, IsUnknown, IsOther, judged, IsLater, IsAnyway, IsEnd, OfLines, ReadsAs, Says, TellsText}
use Rattle.sheet_answers.proofs.Replaying.{replays_of, are_replays}
use Rattle.sheet_answers.proofs.Ended.{as_end, refused, tells_fault, told_fault, of_cases}
use Rattle.sheet_answers.proofs.Reached.{Reached, fault_said, long_said, end_said}
use Rattle.sheet_answers.proofs.Others.{two_decides, two_is_other, no_other, as_decided, other_decides, same_end}
use Rattle.sheet_answers.specs.Sheets.{ShowsSheet}
use Rattle.sheet_answers.specs.Laws.{SheetsAreTrue}
use Rattle.sheet_answers.proofs.GoodSheets.{reads_good, good_reads}

-- ---- the ends of the reading

-- what is said of a fault is told
fault_told : (c : Circuit) (told : Option (List ℕ)) (fault : Fault) → Says c told (refused fault) → TellsText c told (Err (as_end fault))
fault_told c told (Plain fault) h = h
fault_told c told (InBlock n fault) h = h

pub lines_told : (c : Circuit) (told : Option (List ℕ)) (r : Reading) (s : State) (number : ℕ) (end : JudgeEnd) → Reached c told r s number → r.taken ≤ most_bytes → OfLines s told r end
    → TellsText c told (Err end)
lines_told c told r s number (ends.Text (text_ends.Answer (answer_ends.Refused fault))) reached most (is, later, goes_on, long) =
    subst (λ f. Says c told (refused (Plain f))) (sym is) (long_said c told r s number reached later goes_on most long)
lines_told c told r s number (ends.Text (text_ends.Answer answer_ends.ReadFault)) reached most of = tt
lines_told c told r s number (ends.Text (text_ends.Answer answer_ends.Memory)) reached most of = tt
lines_told c told r s number (ends.Text (text_ends.TooLarge variable)) reached most of = absurd of
lines_told c told r s number (ends.Block n fault) reached most of = absurd of

-- the line with its fault, whatever replays say that are right
abbrev Fails : Circuit → State → ℕ → List ℕ → JudgeEnd → Type 0
Fails c s number line end =
    (replays : Replays) → AreReplays c replays → OfEnd (λ fault. read_lines c replays s (kept_from number (line ∷ [])) ≡ Err fault) end

fails_each : (c : Circuit) (s : State) (number : ℕ) (line : List ℕ) (fault : Fault) → Fails c s number line (as_end fault)
    → (replays : Replays) → AreReplays c replays → read_lines c replays s (kept_from number (line ∷ [])) ≡ Err fault
fails_each c s number line (Plain fault) h = h
fails_each c s number line (InBlock n fault) h = h

pub stop_told : (c : Circuit) (told : Option (List ℕ)) (old new : Reading) (s : State) (number : ℕ) (end : JudgeEnd) → Reached c told old s number → old.last ≡ false → Took told old new
    → Lacks new.line 10 → new.taken ≤ most_bytes → IsAnyway s (is_skipped new.line) (opens_sheet new.line)
    → ((replays : Replays) → AreReplays c replays → OfEnd (λ fault. read_lines c replays s (kept_from number (new.line ∷ [])) ≡ Err fault) end) → TellsText c told (Err end)
stop_told c told old new s number end reached goes_on took lacks most anyway of =
    by (of_cases (λ fault. read_lines c (replays_of c) s (kept_from number (new.line ∷ [])) ≡ Err fault) end (of (replays_of c) (are_replays c)))
  where
    by : (end ≡ refused_memory) ⊎ ((fault : Fault) × (as_end fault ≡ end) × (read_lines c (replays_of c) s (kept_from number (new.line ∷ [])) ≡ Err fault)) → TellsText c told (Err end)
    by (inl memory) = subst (λ (e : JudgeEnd). TellsText c told (Err e)) (sym memory) tt
    by (inr (fault, same, read)) =
        let each : Fails c s number new.line (as_end fault) = subst (λ (e : JudgeEnd). Fails c s number new.line e) (sym same) of in
        subst (λ (e : JudgeEnd). TellsText c told (Err e)) same
        (fault_told c told fault (fault_said c told old new s number fault reached goes_on took lacks most anyway (fails_each c s number new.line fault each)))

-- behind a line of the sheet the text itself ends
pub left_nothing : (s : State) (told : Option (List ℕ)) (r : Reading) → IsLater s → IsEnd s told r → IfTold told (λ text. left_of r text ≡ [])
left_nothing s told r later (inl end) = end
left_nothing s told r later (inr (first, goes_on, long)) = absurd (subst IsLater first later)

pub good_told : (c : Circuit) (told : Option (List ℕ)) (r : Reading) (s : State) (number : ℕ) (a : Accepted) → Reached c told r s number → IsLater s → r.taken ≤ most_bytes
    → IfTold told (λ text. left_of r text ≡ []) → TellsEnd s number (Ok a) → TellsText c told (Ok (finds.Sheet a))
good_told c told r s number a reached later most none tells = end_said c told r s number (Ok a) reached later most none tells

pub end_told : (c : Circuit) (told : Option (List ℕ)) (r : Reading) (s : State) (number : ℕ) (end : JudgeEnd) → Reached c told r s number → IsLater s → r.taken ≤ most_bytes
    → IfTold told (λ text. left_of r text ≡ []) → TellsEnd s number (Err end) → TellsText c told (Err end)
end_told c told r s number (ends.Text (text_ends.Answer (answer_ends.Refused fault))) reached later most none tells =
    end_said c told r s number (refused (Plain fault)) reached later most none tells
end_told c told r s number (ends.Text (text_ends.Answer answer_ends.ReadFault)) reached later most none tells = tt
end_told c told r s number (ends.Text (text_ends.Answer answer_ends.Memory)) reached later most none tells = tt
end_told c told r s number (ends.Text (text_ends.TooLarge variable)) reached later most none tells = absurd tells
end_told c told r s number (ends.Block n fault) reached later most none tells = end_said c told r s number (refused (InBlock n fault)) reached later most none tells

pub of_unread : (P : Fault → Type 0) (end : JudgeEnd) → OfEnd P end → end_unread end ≡ false
of_unread P (ends.Text (text_ends.Answer (answer_ends.Refused fault))) of = refl
of_unread P (ends.Text (text_ends.Answer answer_ends.ReadFault)) of = absurd of
of_unread P (ends.Text (text_ends.Answer answer_ends.Memory)) of = refl
of_unread P (ends.Text (text_ends.TooLarge variable)) of = refl
of_unread P (ends.Block n fault) of = refl

pub at_end_unread : (s : State) (number : ℕ) (end : JudgeEnd) → TellsEnd s number (Err end) → end_unread end ≡ false
at_end_unread s number (ends.Text (text_ends.Answer (answer_ends.Refused fault))) tells = refl
at_end_unread s number (ends.Text (text_ends.Answer answer_ends.ReadFault)) tells = absurd tells
at_end_unread s number (ends.Text (text_ends.Answer answer_ends.Memory)) tells = refl
at_end_unread s number (ends.Text (text_ends.TooLarge variable)) tells = refl
at_end_unread s number (ends.Block n fault) tells = refl

-- ---- what it says of the text

-- how the check of a sheet ends
abbrev pub as_judged : Result Accepted JudgeEnd → Result Judged JudgeEnd
as_judged (Ok a) = Ok (judged a)
as_judged (Err end) = Err end

-- the reading decides the end
decides : (c : Circuit) (text : List ℕ) (result : Result Accepted JudgeEnd) → opens_as_sheet text ≡ true → ReadsAs c (replays_of c) text result → Decides c text (as_judged result)
decides c text (Ok a) is reads = reads_good c text a reads
decides c text (Err end) is tells = subst (λ b. RefusesAs b c text end) (sym is) (by (told_fault _ end tells))
  where
    by : (fault : Fault) × (as_end fault ≡ end) × IsFirstFault text (read_lines c (replays_of c) First (kept_readable text)) fault → TellsFault (IsRefused c text) end
    by (fault, same, first) =
        subst (λ (e : JudgeEnd). TellsFault (IsRefused c text) e) same (tells_fault (IsRefused c text) fault (replays_of c, are_replays c, first))

pub says : (c : Circuit) (held : Option (List ℕ)) (result : Result Accepted JudgeEnd) → Says c held result → JudgeSays c held (as_judged result)
says c held result (text, may, is, decided) = by (decided.found (replays_of c) (are_replays c))
  where
    by : GivesSome (Err refused_memory) (ReadsAs c (replays_of c) text) result → JudgeSays c held (as_judged result)
    by (inl reads) = inl (inr (text, may, decides c text result is reads))
    by (inr none) = inr (ap as_judged none)

-- what the text decides is read
read_again : (c : Circuit) (text : List ℕ) (verdict : Result Judged JudgeEnd) → opens_as_sheet text ≡ true → Decides c text verdict
    → (replays : Replays) × AreReplays c replays × ((result : Result Accepted JudgeEnd) × (as_judged result ≡ verdict) × ReadsAs c replays text result)
read_again c text (Ok (Text other)) is good = absurd (no_other c text other is good)
read_again c text (Ok (Sheet counts entries)) is good =
    (replays_of c, are_replays c, (Ok (record { counts = counts; entries = entries }), refl, good_reads c text counts entries good))
read_again c text (Err end) is h = by (told_fault (IsRefused c text) end (subst (λ b. RefusesAs b c text end) is h))
  where
    by : (fault : Fault) × (as_end fault ≡ end) × IsRefused c text fault
        → (replays : Replays) × AreReplays c replays × ((result : Result Accepted JudgeEnd) × (as_judged result ≡ Err end) × ReadsAs c replays text result)
    by (fault, same, (replays, are, first)) = (
      replays,
      are,
      (
        Err end,
        refl,
        subst (λ (e : JudgeEnd). ReadsAs c replays text (Err e)) same (tells_fault (IsFirstFault text (read_lines c replays First (kept_readable text))) fault first),
      ),
    )

pub exactly : (c : Circuit) (held : Option (List ℕ)) (result : Result Accepted JudgeEnd) → Says c held result → (text : List ℕ) (verdict : Result Judged JudgeEnd) → held ≡ Some text
    → Decides c text verdict → EndsWith (as_judged result) verdict
exactly c held result (found, may, opens, decided) text verdict is h =
    let same : found ≡ text = sym (may text is) in
    by (read_again c found verdict opens (subst (λ (bytes : List ℕ). Decides c bytes verdict) (sym same) h))
  where
    ended : (end : Result Accepted JudgeEnd) → as_judged end ≡ verdict → Gives (Err refused_memory) end result → EndsWith (as_judged result) verdict
    ended end to (inl same) = inl (inl (ap as_judged same ∙ to))
    ended end to (inr none) = inr (ap as_judged none)

    by : (replays : Replays) × AreReplays c replays × ((end : Result Accepted JudgeEnd) × (as_judged end ≡ verdict) × ReadsAs c replays found end) → EndsWith (as_judged result) verdict
    by (replays, are, (end, to, reads)) = ended end to (decided.exactly replays end are reads)

pub err_says : (c : Circuit) (held : Option (List ℕ)) (end : JudgeEnd) → TellsText c held (Err end) → JudgeSays c held (Err end)
err_says c held (ends.Text (text_ends.Answer (answer_ends.Refused fault))) told = says c held (refused (Plain fault)) told
err_says c held (ends.Text (text_ends.Answer answer_ends.ReadFault)) told = inl (inl refl)
err_says c held (ends.Text (text_ends.Answer answer_ends.Memory)) told = inr refl
err_says c held (ends.Text (text_ends.TooLarge variable)) told = absurd told
err_says c held (ends.Block n fault) told = says c held (refused (InBlock n fault)) told

pub err_exactly : (c : Circuit) (held : Option (List ℕ)) (end : JudgeEnd) → TellsText c held (Err end) → (text : List ℕ) (verdict : Result Judged JudgeEnd) → held ≡ Some text
    → Decides c text verdict → EndsWith (Err end) verdict
err_exactly c held (ends.Text (text_ends.Answer (answer_ends.Refused fault))) told = exactly c held (refused (Plain fault)) told
err_exactly c held (ends.Text (text_ends.Answer answer_ends.ReadFault)) told = λ text verdict is h. inl (inr refl)
err_exactly c held (ends.Text (text_ends.Answer answer_ends.Memory)) told = λ text verdict is h. inr refl
err_exactly c held (ends.Text (text_ends.TooLarge variable)) told = absurd told
err_exactly c held (ends.Block n fault) told = exactly c held (refused (InBlock n fault)) told

-- ---- a text whose status as another text is unknown, and that is no sheet

other_found : (c : Circuit) (held : Option (List ℕ)) → IsOther held → OtherSays c held unknown → JudgeSays c held (as_text unknown)
other_found c held other (inl (inl unread)) = inl (inl (ap as_text unread))
other_found c held other (inl (inr (text, may, h))) = inl (inr (by held other may))
  where
    by : (told : Option (List ℕ)) → IsOther told → MayBe told text → (found : List ℕ) × MayBe told found × Decides c found (as_text unknown)
    by None other may = (codes "2", λ x e. absurd (cc e), as_decided c (codes "2") unknown two_is_other (two_decides c))
    by (Some told) other may =
        let same : told ≡ text = may told refl in
        (text, may, as_decided c text unknown (ap opens_as_sheet (sym same) ∙ other told refl) h)
other_found c held other (inr none) = inr (ap as_text none)

other_exactly : (c : Circuit) (held : Option (List ℕ)) → IsOther held
    → ((text : List ℕ) (verdict : Result TextJudged TextEnd) → held ≡ Some text → OtherDecides c text verdict → OtherEndsWith unknown verdict)
    → (text : List ℕ) (verdict : Result Judged JudgeEnd) → held ≡ Some text → Decides c text verdict → EndsWith (as_text unknown) verdict
other_exactly c held other each text verdict is h =
    let (end, same, decided) = other_decides c text verdict (other text is) h in
    same_end unknown end verdict same (each text end is decided)

pub told_found : (c : Circuit) (held : Option (List ℕ)) (r : Result Found JudgeEnd) → IsUnknown c held → TellsText c held r → JudgeSays c held (as_told r)
told_found c held (Ok (finds.Sheet a)) end told = says c held (Ok a) told
told_found c held (Ok finds.Other) end told = other_found c held told end.says
told_found c held (Err e) end told = err_says c held e told

pub told_exactly : (c : Circuit) (held : Option (List ℕ)) (r : Result Found JudgeEnd) → IsUnknown c held → TellsText c held r
    → (text : List ℕ) (verdict : Result Judged JudgeEnd) → held ≡ Some text → Decides c text verdict → EndsWith (as_told r) verdict
told_exactly c held (Ok (finds.Sheet a)) end told = exactly c held (Ok a) told
told_exactly c held (Ok finds.Other) end told = other_exactly c held told end.exactly
told_exactly c held (Err e) end told = err_exactly c held e told

pub told_shows : (c : Circuit) (held : Option (List ℕ)) (r : Result Found JudgeEnd) → SheetsAreTrue c → TellsText c held r → IfOk (as_told r) (ShowsText c)
told_shows c held (Ok (finds.Sheet a)) true_one (text, may, is, decided) = by (decided.found (replays_of c) (are_replays c))
  where
    by : GivesSome (Err refused_memory) (ReadsAs c (replays_of c) text) (Ok a) → ShowsSheet c a.counts
    by (inl reads) = true_one text a.counts a.entries (reads_good c text a reads)
    by (inr none) = absurd (cc none)
told_shows c held (Ok finds.Other) true_one told = tt
told_shows c held (Err e) true_one told = tt

pub told_unread : (r : Result Found JudgeEnd) → has_unread {T = Found} r ≡ has_unread {T = Judged} (as_told r)
told_unread (Ok (finds.Sheet a)) = refl
told_unread (Ok finds.Other) = refl
told_unread (Err end) = refl

abbrev as_read : JudgeEnd → Result Found JudgeEnd
as_read end = Err end

same_err : (a b : JudgeEnd) → ◌≡◌ {A = Result Judged JudgeEnd} (Err a) (Err b) → a ≡ b
same_err a b e = cc

pub told_read : (r : Result Found JudgeEnd) → as_told r ≡ read_fault → r ≡ Err (ends.Text (text_ends.Answer answer_ends.ReadFault))
told_read (Ok (finds.Sheet a)) e = absurd (cc e)
told_read (Ok finds.Other) e = absurd (cc e)
told_read (Err end) e = ap as_read (same_err end (ends.Text (text_ends.Answer answer_ends.ReadFault)) e)
