-- What the lines of a sheet say of its end.
use Rattle.std.proofs.Common.{◌≡◌, ◌⊎◌, ℕ, ◌≤◌, ◌<◌, inl, inr, List, length, refl, ap, sym, subst, ◌∙◌, arith, Result, Ok, Err}
use Rattle.aig_semantics.specs.Circuits.{Circuit}
use Rattle.answer_lines.specs.Left.{most_bytes}
use Rattle.unless_memory.specs.Answers.{Gives}
use Rattle.certificate.specs.declared.ends.AnswerFault.TheVariants.{TooLong}
use Rattle.certificate.specs.declared.ends.AnswerEnd.TheVariants as answer_ends
use Rattle.certificate.specs.Lines.{end_of, kept_readable}
use Rattle.round_answers.specs.declared.ends.JudgeEnd.TheVariants as text_ends
use Rattle.sheet_answers.specs.declared.ends.JudgeEnd.{JudgeEnd}
use Rattle.sheet_answers.specs.declared.ends.JudgeEnd.TheVariants as ends
use Rattle.sheet_answers.specs.declared.found.Accepted.{Accepted}
use Rattle.sheet_answers.specs.Reading.{State, First, Versioned, Listing, Between, Refuting, Proving, Showing, Done, Fault, Plain, InBlock, Replays, Stepped, read_lines}
use Rattle.sheet_answers.specs.Ends.{AreReplays, IsFaultAtEnd, IsFirstFault, TellsFault, refused_memory}
use Rattle.sheet_answers.specs.Seen.{IsGoodAtEnd, OfEnd, TellsEnd}
use Rattle.sheet_answers.specs.First.{ReadsAs, Decided}

same_ok : (s t : State) (E : Stepped) → E ≡ Ok s → E ≡ Ok t → s ≡ t
same_ok s t E a b = cc (a, b)

not_both : (s : State) (fault : Fault) (E : Stepped) → E ≡ Ok s → E ≡ Err fault → ⊥
not_both s fault E a b = cc (a, b)

-- the end that tells a fault
abbrev pub as_end : Fault → JudgeEnd
as_end (Plain fault) = ends.Text (text_ends.Answer (answer_ends.Refused fault))
as_end (InBlock n fault) = ends.Block n fault

pub tells_fault : (P : Fault → Type 0) (fault : Fault) → P fault → TellsFault P (as_end fault)
tells_fault P (Plain fault) h = h
tells_fault P (InBlock n fault) h = h

pub told_fault : (P : Fault → Type 0) (end : JudgeEnd) → TellsFault P end → (fault : Fault) × (as_end fault ≡ end) × P fault
told_fault P (ends.Text (text_ends.Answer (answer_ends.Refused fault))) h = (Plain fault, refl, h)
told_fault P (ends.Text (text_ends.Answer answer_ends.ReadFault)) h = absurd h
told_fault P (ends.Text (text_ends.Answer answer_ends.Memory)) h = absurd h
told_fault P (ends.Text (text_ends.TooLarge variable)) h = absurd h
told_fault P (ends.Block n fault) h = (InBlock n fault, refl, h)

-- the end of a step is want of memory, or tells a fault
pub of_cases : (P : Fault → Type 0) (end : JudgeEnd) → OfEnd P end → (end ≡ refused_memory) ⊎ ((fault : Fault) × (as_end fault ≡ end) × P fault)
of_cases P (ends.Text (text_ends.Answer (answer_ends.Refused fault))) h = inr (Plain fault, refl, h)
of_cases P (ends.Text (text_ends.Answer answer_ends.ReadFault)) h = absurd h
of_cases P (ends.Text (text_ends.Answer answer_ends.Memory)) h = inl refl
of_cases P (ends.Text (text_ends.TooLarge variable)) h = absurd h
of_cases P (ends.Block n fault) h = inr (InBlock n fault, refl, h)

abbrev pub refused : Fault → Result Accepted JudgeEnd
refused fault = Err (as_end fault)

abbrev failed : JudgeEnd → Result Accepted JudgeEnd
failed end = Err end

abbrev none : Result Accepted JudgeEnd
none = Err refused_memory

abbrev Reads : Circuit → Replays → List ℕ → Stepped
Reads c replays text = read_lines c replays First (kept_readable text)

-- a line has a fault
pub fault_decides : (c : Circuit) (text : List ℕ) (fault : Fault) → ((replays : Replays) → AreReplays c replays → Reads c replays text ≡ Err fault)
    → Decided c (refused fault) text
fault_decides c text fault is = record {
  found = λ replays are. inl (tells_fault (IsFirstFault text (Reads c replays text)) fault
      (subst (λ (lines : Stepped). IsFirstFault text lines fault) (sym (is replays are)) refl));
  exactly = exactly;
}
  where
    other : (replays : Replays) (end : JudgeEnd) → AreReplays c replays → (g : Fault) × (as_end g ≡ end) × IsFirstFault text (Reads c replays text) g
        → Gives none (Err end) (refused fault)
    other replays end are (g, same, first) =
        let equal : g ≡ fault = subst (λ (lines : Stepped). IsFirstFault text lines g) (is replays are) first in
        inl (ap failed (ap as_end (sym equal) ∙ same))

    exactly : (replays : Replays) (verdict : Result Accepted JudgeEnd) → AreReplays c replays → ReadsAs c replays text verdict → Gives none verdict (refused fault)
    exactly replays (Ok a) are (short, s, ok, good) = absurd (not_both s fault (Reads c replays text) ok (is replays are))
    exactly replays (Err end) are tells = other replays end are (told_fault (IsFirstFault text (Reads c replays text)) end tells)

-- the lines have none, and the text is longer than the limit
pub length_decides : (c : Circuit) (text : List ℕ) (s : State) → ((replays : Replays) → AreReplays c replays → Reads c replays text ≡ Ok s) → most_bytes < length text
    → Decided c (refused (Plain TooLong)) text
length_decides c text s is long = record {
  found = λ replays are. inl (subst (λ (lines : Stepped). IsFirstFault text lines (Plain TooLong)) (sym (is replays are)) (inl (long, refl)));
  exactly = exactly;
}
  where
    equal : (g : Fault) → IsFirstFault text (Ok s) g → g ≡ Plain TooLong
    equal g (inl (longer, same)) = same
    equal g (inr (short, at_end)) = absurd (omega (arith, long, short))

    other : (replays : Replays) (end : JudgeEnd) → AreReplays c replays → (g : Fault) × (as_end g ≡ end) × IsFirstFault text (Reads c replays text) g
        → Gives none (Err end) (refused (Plain TooLong))
    other replays end are (g, same, first) =
        inl (ap failed (ap as_end (sym (equal g (subst (λ (lines : Stepped). IsFirstFault text lines g) (is replays are) first))) ∙ same))

    exactly : (replays : Replays) (verdict : Result Accepted JudgeEnd) → AreReplays c replays → ReadsAs c replays text verdict
        → Gives none verdict (refused (Plain TooLong))
    exactly replays (Ok a) are (short, t, ok, good) = absurd (omega (arith, long, short))
    exactly replays (Err end) are tells = other replays end are (told_fault (IsFirstFault text (Reads c replays text)) end tells)

-- ---- the lines have none, and the text ends

one_fault : (s : State) (number : ℕ) (f g : Fault) → IsFaultAtEnd s number f → IsFaultAtEnd s number g → f ≡ g
one_fault (Done t entries) number f g h k = absurd h
one_fault First number f g h k = h ∙ sym k
one_fault Versioned number f g h k = h ∙ sym k
one_fault (Listing s) number f g h k = h ∙ sym k
one_fault (Between t entries) number f g h k = h ∙ sym k
one_fault (Refuting t entries) number f g h k = h ∙ sym k
one_fault (Proving t s) number f g h k = h ∙ sym k
one_fault (Showing t entries s) number f g h k = h ∙ sym k

one_good : (s : State) (a b : Accepted) → IsGoodAtEnd s a → IsGoodAtEnd s b → a ≡ b
one_good (Done t entries) a b g h =
    let counts : a.counts ≡ b.counts = g.0 ∙ sym h.0 in
    let count : a.entries ≡ b.entries = g.1 ∙ sym h.1 in
    λ i. record { counts = counts i; entries = count i }
one_good First a b g h = absurd g
one_good Versioned a b g h = absurd g
one_good (Listing s) a b g h = absurd g
one_good (Between t entries) a b g h = absurd g
one_good (Refuting t entries) a b g h = absurd g
one_good (Proving t s) a b g h = absurd g
one_good (Showing t entries s) a b g h = absurd g

abbrev accepted : Accepted → Result Accepted JudgeEnd
accepted a = Ok a

-- an accepted one
good_decides : (c : Circuit) (text : List ℕ) (s : State) (a : Accepted) → ((replays : Replays) → AreReplays c replays → Reads c replays text ≡ Ok s)
    → length text ≤ most_bytes → IsGoodAtEnd s a → ((fault : Fault) → IsFaultAtEnd s (end_of text) fault → ⊥) → Decided c (Ok a) text
good_decides c text s a is short here never = record {
  found = λ replays are. inl (short, s, is replays are, here);
  exactly = exactly;
}
  where
    fault : (g : Fault) → IsFirstFault text (Ok s) g → ⊥
    fault g (inl (long, same)) = omega (arith, long, short)
    fault g (inr (within, at_end)) = never g at_end

    other : (replays : Replays) (end : JudgeEnd) → AreReplays c replays → (g : Fault) × (as_end g ≡ end) × IsFirstFault text (Reads c replays text) g → ⊥
    other replays end are (g, same, first) = fault g (subst (λ (lines : Stepped). IsFirstFault text lines g) (is replays are) first)

    exactly : (replays : Replays) (verdict : Result Accepted JudgeEnd) → AreReplays c replays → ReadsAs c replays text verdict → Gives none verdict (Ok a)
    exactly replays (Ok b) are (within, t, ok, good) =
        inl (ap accepted (one_good s a b here (subst (λ (u : State). IsGoodAtEnd u b) (same_ok t s (Reads c replays text) ok (is replays are)) good)))
    exactly replays (Err end) are h = absurd (other replays end are (told_fault (IsFirstFault text (Reads c replays text)) end h))

-- one with a fault
wrong_decides : (c : Circuit) (text : List ℕ) (s : State) (fault : Fault) → ((replays : Replays) → AreReplays c replays → Reads c replays text ≡ Ok s)
    → length text ≤ most_bytes → IsFaultAtEnd s (end_of text) fault → ((a : Accepted) → IsGoodAtEnd s a → ⊥) → Decided c (refused fault) text
wrong_decides c text s fault is short has never = record {
  found = λ replays are. inl (tells_fault (IsFirstFault text (Reads c replays text)) fault
      (subst (λ (lines : Stepped). IsFirstFault text lines fault) (sym (is replays are)) (inr (short, has))));
  exactly = exactly;
}
  where
    equal : (g : Fault) → IsFirstFault text (Ok s) g → g ≡ fault
    equal g (inl (long, same)) = absurd (omega (arith, long, short))
    equal g (inr (within, at_end)) = one_fault s (end_of text) g fault at_end has

    other : (replays : Replays) (e : JudgeEnd) → AreReplays c replays → (g : Fault) × (as_end g ≡ e) × IsFirstFault text (Reads c replays text) g
        → Gives none (Err e) (refused fault)
    other replays e are (g, same, first) =
        inl (ap failed (ap as_end (sym (equal g (subst (λ (lines : Stepped). IsFirstFault text lines g) (is replays are) first))) ∙ same))

    exactly : (replays : Replays) (verdict : Result Accepted JudgeEnd) → AreReplays c replays → ReadsAs c replays text verdict → Gives none verdict (refused fault)
    exactly replays (Ok b) are (within, t, ok, good) =
        absurd (never b (subst (λ (u : State). IsGoodAtEnd u b) (same_ok t s (Reads c replays text) ok (is replays are)) good))
    exactly replays (Err e) are h = other replays e are (told_fault (IsFirstFault text (Reads c replays text)) e h)

-- what is said of a fault at the end
pub record AtEnd (s : State) (number : ℕ) (fault : Fault) : Type 0 where
  pub has : IsFaultAtEnd s number fault
  pub never : (a : Accepted) → IsGoodAtEnd s a → ⊥

at_end : (s : State) (number : ℕ) (end : JudgeEnd) → TellsEnd s number (Err end) → OfEnd (AtEnd s number) end
at_end s number (ends.Text (text_ends.Answer (answer_ends.Refused fault))) tells = record { has = tells.0; never = tells.1 }
at_end s number (ends.Text (text_ends.Answer answer_ends.ReadFault)) tells = tells
at_end s number (ends.Text (text_ends.Answer answer_ends.Memory)) tells = tells
at_end s number (ends.Text (text_ends.TooLarge variable)) tells = tells
at_end s number (ends.Block n fault) tells = record { has = tells.0; never = tells.1 }

end_by : (c : Circuit) (text : List ℕ) (s : State) (end : JudgeEnd) → ((replays : Replays) → AreReplays c replays → Reads c replays text ≡ Ok s) → length text ≤ most_bytes
    → (end ≡ refused_memory) ⊎ ((fault : Fault) × (as_end fault ≡ end) × AtEnd s (end_of text) fault) → Decided c (Err end) text
end_by c text s end is short (inl e) = record {
  found = λ replays are. inr (ap failed e);
  exactly = λ replays verdict are reads. inr (ap failed e);
}
end_by c text s end is short (inr (fault, same, h)) =
    subst (λ (e : JudgeEnd). Decided c (Err e) text) same (wrong_decides c text s fault is short h.has h.never)

pub end_decides : (c : Circuit) (text : List ℕ) (s : State) (result : Result Accepted JudgeEnd) → ((replays : Replays) → AreReplays c replays → Reads c replays text ≡ Ok s)
    → length text ≤ most_bytes → TellsEnd s (end_of text) result → Decided c result text
end_decides c text s (Ok a) is short tells = good_decides c text s a is short tells.0 tells.1
end_decides c text s (Err end) is short tells = end_by c text s end is short (of_cases (AtEnd s (end_of text)) end (at_end s (end_of text) end tells))
