-- What the lines of a text say of its end.
use Rattle.std.proofs.Common.{◌≡◌, ℕ, ◌≤◌, ◌<◌, inl, inr, List, length, refl, ap, sym, subst, arith, Option, Some, Result, Ok, Err}
use Rattle.std.specs.Prelude.{IfOk, IfErr}
use Rattle.aig_semantics.specs.Circuits.{Circuit}
use Rattle.answer_lines.specs.Left.{most_bytes}
use Rattle.edge.specs.Told.{MayBe}
use Rattle.unless_memory.specs.Answers.{Gives, GivesSome}
use Rattle.certificate.specs.declared.ends.Accepted.{Accepted}
use Rattle.certificate.specs.declared.ends.AnswerFault.{AnswerFault}
use Rattle.certificate.specs.declared.ends.AnswerFault.TheVariants.{TooLong}
use Rattle.certificate.specs.declared.ends.AnswerEnd.{AnswerEnd}
use Rattle.certificate.specs.declared.ends.AnswerEnd.TheVariants as ends
use Rattle.certificate.specs.Lines.{end_of, kept_readable}
use Rattle.certificate.specs.Reading.{State, Status, Stepped, read_lines}
use Rattle.certificate.specs.Ends.{IsGoodAtEnd, IsFaultAtEnd, IsFirstFault, ReadsAs, EndsWith}
use Rattle.certificate.specs.Steps.{OfEnd}
use Rattle.certificate.specs.Texts.{ReadingSays}

-- the reading of the text ends so, and in no other way, want of memory aside
pub record Decided (c : Circuit) (result : Result Accepted AnswerEnd) (text : List ℕ) : Type 0 where
  pub found : GivesSome (Err ends.Memory) (ReadsAs c text) result
  pub exactly : (verdict : Result Accepted AnswerEnd) → ReadsAs c text verdict → Gives (Err ends.Memory) verdict result

same_ok : (s t : State) (E : Stepped) → E ≡ Ok s → E ≡ Ok t → s ≡ t
same_ok s t E a b = cc (a, b)

not_both : (s : State) (f : AnswerFault) (E : Stepped) → E ≡ Ok s → E ≡ Err f → ⊥
not_both s f E a b = cc (a, b)

-- the end of an answer that has this fault
abbrev refused : AnswerFault → Result Accepted AnswerEnd
refused fault = Err (ends.Refused fault)

abbrev memory : Result Accepted AnswerEnd
memory = Err ends.Memory

as_refused : (f g : AnswerFault) → g ≡ f → refused f ≡ refused g
as_refused f g same = ap refused (sym same)

-- a line has a fault
pub fault_decides : (c : Circuit) (text : List ℕ) (f : AnswerFault) → read_lines c Status (kept_readable text) ≡ Err f → Decided c (Err (ends.Refused f)) text
fault_decides c text f is = record {
  found = inl (subst (λ (lines : Stepped). IsFirstFault c text lines f) (sym is) refl);
  exactly = exactly;
}
  where
    exactly : (verdict : Result Accepted AnswerEnd) → ReadsAs c text verdict → Gives memory verdict (refused f)
    exactly (Ok accepted) (_, s, ok, _) = absurd (not_both s f (read_lines c Status (kept_readable text)) ok is)
    exactly (Err (ends.Refused g)) first = inl (as_refused f g (subst (λ (lines : Stepped). IsFirstFault c text lines g) is first))
    exactly (Err ends.ReadFault) never = absurd never
    exactly (Err ends.Memory) never = absurd never

-- the lines have none, and the text is longer than the limit
pub length_decides : (c : Circuit) (text : List ℕ) (s : State) → read_lines c Status (kept_readable text) ≡ Ok s → most_bytes < length text → Decided c (Err (ends.Refused TooLong)) text
length_decides c text s is long = record {
  found = inl (subst (λ (lines : Stepped). IsFirstFault c text lines TooLong) (sym is) (inl (long, refl)));
  exactly = exactly;
}
  where
    fault : (g : AnswerFault) → IsFirstFault c text (Ok s) g → Gives memory (refused g) (refused TooLong)
    fault g (inl (_, same)) = inl (as_refused TooLong g same)
    fault g (inr (short, _)) = absurd (omega (arith, long, short))

    exactly : (verdict : Result Accepted AnswerEnd) → ReadsAs c text verdict → Gives memory verdict (refused TooLong)
    exactly (Ok accepted) (short, _, _, _) = absurd (omega (arith, long, short))
    exactly (Err (ends.Refused g)) first = fault g (subst (λ (lines : Stepped). IsFirstFault c text lines g) is first)
    exactly (Err ends.ReadFault) never = absurd never
    exactly (Err ends.Memory) never = absurd never

-- what is answered at the end of a text, in a state
pub record Finishes (c : Circuit) (s : State) (number : ℕ) (result : Result Accepted AnswerEnd) : Type 0 where
  pub ok : IfOk result (λ accepted. IsGoodAtEnd c s accepted)
  pub fault : IfErr result (OfEnd (λ fault. IsFaultAtEnd c s number fault))
  pub every : (accepted : Accepted) → IsGoodAtEnd c s accepted → Gives (Err ends.Memory) (Ok accepted) result
  pub each_fault : (fault : AnswerFault) → IsFaultAtEnd c s number fault → Gives (Err ends.Memory) (Err (ends.Refused fault)) result

found_at_end : (c : Circuit) (text : List ℕ) (s : State) (result : Result Accepted AnswerEnd) → read_lines c Status (kept_readable text) ≡ Ok s → length text ≤ most_bytes → IfOk result (λ accepted. IsGoodAtEnd c s accepted) → IfErr result (OfEnd (λ fault. IsFaultAtEnd c s (end_of text) fault)) → GivesSome (Err ends.Memory) (ReadsAs c text) result
found_at_end c text s (Ok accepted) is short ok fault = inl (short, s, is, ok)
found_at_end c text s (Err (ends.Refused f)) is short ok fault =
    inl (subst (λ (lines : Stepped). IsFirstFault c text lines f) (sym is) (inr (short, fault)))
found_at_end c text s (Err ends.ReadFault) is short ok fault = absurd fault
found_at_end c text s (Err ends.Memory) is short ok fault = inr refl

-- the lines have none, and the text ends
pub end_decides : (c : Circuit) (text : List ℕ) (s : State) (result : Result Accepted AnswerEnd) → read_lines c Status (kept_readable text) ≡ Ok s → length text ≤ most_bytes → Finishes c s (end_of text) result → Decided c result text
end_decides c text s result is short finishes = record {
  found = found_at_end c text s result is short finishes.ok finishes.fault;
  exactly = exactly;
}
  where
    fault : (g : AnswerFault) → IsFirstFault c text (Ok s) g → Gives memory (refused g) result
    fault g (inl (long, _)) = absurd (omega (arith, long, short))
    fault g (inr (_, at_end)) = finishes.each_fault g at_end

    exactly : (verdict : Result Accepted AnswerEnd) → ReadsAs c text verdict → Gives memory verdict result
    exactly (Ok accepted) (_, t, ok, good) =
        finishes.every accepted (subst (λ (u : State). IsGoodAtEnd c u accepted) (same_ok t s (read_lines c Status (kept_readable text)) ok is) good)
    exactly (Err (ends.Refused g)) first = fault g (subst (λ (lines : Stepped). IsFirstFault c text lines g) is first)
    exactly (Err ends.ReadFault) never = absurd never
    exactly (Err ends.Memory) never = absurd never

-- it is so of a text that the shelf may hold
abbrev pub Says : Circuit → Option (List ℕ) → Result Accepted AnswerEnd → Type 0
Says c told result = (text : List ℕ) × MayBe told text × Decided c result text

pub says_found : (c : Circuit) (told : Option (List ℕ)) (result : Result Accepted AnswerEnd) → Says c told result → ReadingSays c told result
says_found c told result (text, may, decided) = by decided.found
  where
    by : GivesSome memory (ReadsAs c text) result → ReadingSays c told result
    by (inl reads) = inl (inr (text, may, reads))
    by (inr none) = inr none

pub says_exactly : (c : Circuit) (told : Option (List ℕ)) (result : Result Accepted AnswerEnd) → Says c told result → (text : List ℕ) (verdict : Result Accepted AnswerEnd) → told ≡ Some text → ReadsAs c text verdict → EndsWith result verdict
says_exactly c told result (text, may, decided) x verdict is reads =
    by (decided.exactly verdict (subst (λ (bytes : List ℕ). ReadsAs c bytes verdict) (may x is) reads))
  where
    by : Gives memory verdict result → EndsWith result verdict
    by (inl same) = inl (inl same)
    by (inr none) = inr none
