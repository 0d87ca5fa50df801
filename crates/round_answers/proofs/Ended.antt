-- What the lines of a text about rounds say of its end.
use Rattle.std.proofs.Common.{◌≡◌, ℕ, ◌≤◌, ◌<◌, inl, inr, List, length, refl, ap, sym, subst, arith, Option, Some, Result, Ok, Err}
use Rattle.aig_semantics.specs.Circuits.{Circuit}
use Rattle.answer_lines.specs.Left.{most_bytes}
use Rattle.edge.specs.Told.{MayBe}
use Rattle.unless_memory.specs.Answers.{Gives, GivesSome}
use Rattle.certificate.specs.declared.ends.AnswerFault.{AnswerFault}
use Rattle.certificate.specs.declared.ends.AnswerFault.TheVariants.{TooLong}
use Rattle.certificate.specs.declared.ends.AnswerEnd.TheVariants as ends
use Rattle.certificate.specs.Lines.{end_of, kept_readable}
use Rattle.round_answers.specs.declared.ends.Judged.{Judged}
use Rattle.round_answers.specs.declared.ends.JudgeEnd.{JudgeEnd}
use Rattle.round_answers.specs.declared.ends.JudgeEnd.TheVariants.{Answer, TooLarge as LargerThan}
use Rattle.round_answers.specs.Reading.{State, First, Stop, Fault, TooLarge, Stepped, read_lines}
use Rattle.round_answers.specs.Ends.{IsGoodAtEnd, IsFaultAtEnd, IsFirstFault, ReadsAs, EndsWith, no_memory, read_fault}
use Rattle.round_answers.specs.Telling.{TellsEnd}
use Rattle.round_answers.specs.First.{Decided}

same_ok : (s t : State) (E : Stepped) → E ≡ Ok s → E ≡ Ok t → s ≡ t
same_ok s t E a b = cc (a, b)

not_both : (s : State) (stop : Stop) (E : Stepped) → E ≡ Ok s → E ≡ Err stop → ⊥
not_both s stop E a b = cc (a, b)

same_stop : (a b : Stop) (E : Stepped) → E ≡ Err a → E ≡ Err b → a ≡ b
same_stop a b E x y = cc (x, y)

abbrev pub refused : AnswerFault → Result Judged JudgeEnd
refused fault = Err (Answer (ends.Refused fault))

as_refused : (f g : AnswerFault) → g ≡ f → refused f ≡ refused g
as_refused f g same = ap refused (sym same)

-- how a text ends whose reading stops
abbrev pub stopped : Stop → Result Judged JudgeEnd
stopped (Fault fault) = refused fault
stopped (TooLarge variable) = Err (LargerThan variable)

abbrev Reads : Circuit → List ℕ → Stepped
Reads c text = read_lines c First (kept_readable text)

-- a line has a fault
fault_decides : (c : Circuit) (text : List ℕ) (f : AnswerFault) → Reads c text ≡ Err (Fault f) → Decided c (refused f) text
fault_decides c text f is = record {
  found = inl (subst (λ (lines : Stepped). IsFirstFault c text lines f) (sym is) refl);
  exactly = exactly;
}
  where
    larger : (v : ℕ) → Fault f ≡ TooLarge v → Gives no_memory (Err (LargerThan v)) (refused f)
    larger v e = absurd (cc)

    exactly : (verdict : Result Judged JudgeEnd) → ReadsAs c text verdict → Gives no_memory verdict (refused f)
    exactly (Ok judged) (_, s, ok, _) = absurd (not_both s (Fault f) (Reads c text) ok is)
    exactly (Err (Answer (ends.Refused g))) first = inl (as_refused f g (subst (λ (lines : Stepped). IsFirstFault c text lines g) is first))
    exactly (Err (Answer ends.ReadFault)) never = absurd never
    exactly (Err (Answer ends.Memory)) never = absurd never
    exactly (Err (LargerThan v)) reads = larger v (same_stop (Fault f) (TooLarge v) (Reads c text) is reads)

-- the monitor would be too large
large_decides : (c : Circuit) (text : List ℕ) (v : ℕ) → Reads c text ≡ Err (TooLarge v) → Decided c (Err (LargerThan v)) text
large_decides c text v is = record {
  found = inl is;
  exactly = exactly;
}
  where
    same : (w : ℕ) → TooLarge v ≡ TooLarge w → Gives no_memory (Err (LargerThan w)) (Err (LargerThan v))
    same w e = inl (cc)

    exactly : (verdict : Result Judged JudgeEnd) → ReadsAs c text verdict → Gives no_memory verdict (Err (LargerThan v))
    exactly (Ok judged) (_, s, ok, _) = absurd (not_both s (TooLarge v) (Reads c text) ok is)
    exactly (Err (Answer (ends.Refused g))) first = absurd (subst (λ (lines : Stepped). IsFirstFault c text lines g) is first)
    exactly (Err (Answer ends.ReadFault)) never = absurd never
    exactly (Err (Answer ends.Memory)) never = absurd never
    exactly (Err (LargerThan w)) reads = same w (same_stop (TooLarge v) (TooLarge w) (Reads c text) is reads)

pub stop_decides : (c : Circuit) (text : List ℕ) (stop : Stop) → Reads c text ≡ Err stop → Decided c (stopped stop) text
stop_decides c text (Fault f) is = fault_decides c text f is
stop_decides c text (TooLarge v) is = large_decides c text v is

-- the lines have none, and the text is longer than the limit
pub length_decides : (c : Circuit) (text : List ℕ) (s : State) → Reads c text ≡ Ok s → most_bytes < length text → Decided c (refused TooLong) text
length_decides c text s is long = record {
  found = inl (subst (λ (lines : Stepped). IsFirstFault c text lines TooLong) (sym is) (inl (long, refl)));
  exactly = exactly;
}
  where
    fault : (g : AnswerFault) → IsFirstFault c text (Ok s) g → Gives no_memory (refused g) (refused TooLong)
    fault g (inl (_, same)) = inl (as_refused TooLong g same)
    fault g (inr (short, _)) = absurd (omega (arith, long, short))

    exactly : (verdict : Result Judged JudgeEnd) → ReadsAs c text verdict → Gives no_memory verdict (refused TooLong)
    exactly (Ok judged) (short, _, _, _) = absurd (omega (arith, long, short))
    exactly (Err (Answer (ends.Refused g))) first = fault g (subst (λ (lines : Stepped). IsFirstFault c text lines g) is first)
    exactly (Err (Answer ends.ReadFault)) never = absurd never
    exactly (Err (Answer ends.Memory)) never = absurd never
    exactly (Err (LargerThan v)) reads = absurd (not_both s (TooLarge v) (Reads c text) is reads)

abbrev accepted : Judged → Result Judged JudgeEnd
accepted judged = Ok judged

-- what a state, at the end of a text, says of its judgement
found_at_end : (c : Circuit) (text : List ℕ) (s : State) (result : Result Judged JudgeEnd) → Reads c text ≡ Ok s → length text ≤ most_bytes
    → TellsEnd c s (end_of text) result → GivesSome no_memory (ReadsAs c text) result
found_at_end c text s (Ok judged) is short tells = inl (short, s, is, tells.0)
found_at_end c text s (Err (Answer (ends.Refused f))) is short tells =
    inl (subst (λ (lines : Stepped). IsFirstFault c text lines f) (sym is) (inr (short, tells.0)))
found_at_end c text s (Err (Answer ends.ReadFault)) is short tells = absurd tells
found_at_end c text s (Err (Answer ends.Memory)) is short tells = inr refl
found_at_end c text s (Err (LargerThan v)) is short tells = absurd tells

every_at_end : (c : Circuit) (s : State) (number : ℕ) (result : Result Judged JudgeEnd) → TellsEnd c s number result
    → (judged : Judged) → IsGoodAtEnd c s judged → Gives no_memory (Ok judged) result
every_at_end c s number (Ok judged) tells other good = inl (ap accepted (tells.1 other good))
every_at_end c s number (Err (Answer (ends.Refused f))) tells other good = absurd (tells.2 other good)
every_at_end c s number (Err (Answer ends.ReadFault)) tells other good = absurd tells
every_at_end c s number (Err (Answer ends.Memory)) tells other good = inr refl
every_at_end c s number (Err (LargerThan v)) tells other good = absurd tells

each_at_end : (c : Circuit) (s : State) (number : ℕ) (result : Result Judged JudgeEnd) → TellsEnd c s number result
    → (fault : AnswerFault) → IsFaultAtEnd c s number fault → Gives no_memory (refused fault) result
each_at_end c s number (Ok judged) tells other has = absurd (tells.2 other has)
each_at_end c s number (Err (Answer (ends.Refused f))) tells other has = inl (ap refused (tells.1 other has))
each_at_end c s number (Err (Answer ends.ReadFault)) tells other has = absurd tells
each_at_end c s number (Err (Answer ends.Memory)) tells other has = inr refl
each_at_end c s number (Err (LargerThan v)) tells other has = absurd tells

-- the lines have none, and the text ends
pub end_decides : (c : Circuit) (text : List ℕ) (s : State) (result : Result Judged JudgeEnd) → Reads c text ≡ Ok s → length text ≤ most_bytes
    → TellsEnd c s (end_of text) result → Decided c result text
end_decides c text s result is short tells = record {
  found = found_at_end c text s result is short tells;
  exactly = exactly;
}
  where
    fault : (g : AnswerFault) → IsFirstFault c text (Ok s) g → Gives no_memory (refused g) result
    fault g (inl (long, _)) = absurd (omega (arith, long, short))
    fault g (inr (_, at_end)) = each_at_end c s (end_of text) result tells g at_end

    exactly : (verdict : Result Judged JudgeEnd) → ReadsAs c text verdict → Gives no_memory verdict result
    exactly (Ok judged) (_, t, ok, good) =
        every_at_end c s (end_of text) result tells judged (subst (λ (u : State). IsGoodAtEnd c u judged) (same_ok t s (Reads c text) ok is) good)
    exactly (Err (Answer (ends.Refused g))) first = fault g (subst (λ (lines : Stepped). IsFirstFault c text lines g) is first)
    exactly (Err (Answer ends.ReadFault)) never = absurd never
    exactly (Err (Answer ends.Memory)) never = absurd never
    exactly (Err (LargerThan v)) reads = absurd (not_both s (TooLarge v) (Reads c text) is reads)
