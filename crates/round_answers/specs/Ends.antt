-- How the check of a text ends: what decides it, and what is known of it.
use Rattle.std.specs.Prelude.{◌≡◌, ◌≤◌, ◌<◌, ◌⊎◌, ℕ, ◌+◌, Bool, true, false, List, [], length, take, Option, Result, Ok, Err, All}
use Rattle.aig_semantics.specs.declared.traces.Stimulus.{Stimulus}
use Rattle.aig_semantics.specs.Circuits.{Circuit}
use Rattle.aig_semantics.specs.Runs.{MeetsConstraints, IsInitial}
use Rattle.aig_semantics.specs.Stimuli.{simulated, FitsCircuit}
use Rattle.stimulus.specs.declared.ends.ReplayFault.{ReplayFault}
use Rattle.stimulus.specs.declared.ends.ReplayFault.TheVariants.{Width, NotInitial, Constraint}
use Rattle.stimulus.specs.Faults.{IsFirstMisfit, IsFirstWrong, AreAllowed}
use Rattle.answer_lines.specs.Left.{most_bytes}
use Rattle.edge.specs.Told.{MayBe}
use Rattle.unless_memory.specs.Answers.{GivesSome}
use Rattle.certificate.specs.declared.ends.AnswerFault.{AnswerFault}
use Rattle.certificate.specs.declared.ends.AnswerFault.TheVariants.{Shape, Replay, FewRounds, TooLong}
use Rattle.certificate.specs.declared.ends.AnswerEnd.{AnswerEnd}
use Rattle.certificate.specs.declared.ends.AnswerEnd.TheVariants as ends
use Rattle.certificate.specs.Lines.{end_of, kept_readable, bare}
use Rattle.certificate.specs.Reading.{Dotted, Ended}
use Rattle.certificate.specs.Ends.{IsRefused}
use Rattle.circuit.specs.Rounds.{IsMostRounds}
use Rattle.round_answers.specs.declared.ends.Judged.{Judged}
use Rattle.round_answers.specs.declared.ends.Judged.TheVariants.{Rounds}
use Rattle.round_answers.specs.declared.ends.JudgeEnd.{JudgeEnd}
use Rattle.round_answers.specs.declared.ends.JudgeEnd.TheVariants.{Answer, TooLarge as LargerThan}
use Rattle.round_answers.specs.Texts.{is_about_rounds}
use Rattle.round_answers.specs.Answers.{IsReached, IsGoodText}
use Rattle.round_answers.specs.Reading.{State, First, Running, Listing, Stop, Fault, TooLarge, Stepped, read_lines}

-- the first position at which a constraint is false
pub record IsFirstForbidden (c : Circuit) (s : Stimulus) (position : ℕ) : Type 0 where
  pub inside : position < length s.inputs
  pub before : AreAllowed c (simulated c s.latches (take position s.inputs))
  pub forbidden : AreAllowed c (simulated c s.latches (take (position + 1) s.inputs)) → ⊥

-- The fault of a run that is whole, the first of these: an item of another width, a latch that may not begin so, a position at
-- which a constraint is false; and behind these that it has n rounds, which are fewer than k.
abbrev pub IsRunFault : Circuit → ℕ → ℕ → Stimulus → AnswerFault → Type 0
IsRunFault c k n s (Replay (Width item)) = IsFirstMisfit c s item
IsRunFault c k n s (Replay (NotInitial latch)) = FitsCircuit c s × IsFirstWrong c s.latches latch
IsRunFault c k n s (Replay (Constraint position)) = FitsCircuit c s × IsInitial c s.latches × IsFirstForbidden c s position
IsRunFault c k n s (FewRounds m) =
    FitsCircuit c s × IsInitial c s.latches × AreAllowed c (simulated c s.latches s.inputs)
    × IsMostRounds c n (simulated c s.latches s.inputs) m × (m < k)
IsRunFault c k n s _ = ⊥

-- the state, at the end of a text, is that of a good one, which shows this
abbrev pub IsGoodAtEnd : Circuit → State → Judged → Type 0
IsGoodAtEnd c (Running k n (Dotted m s)) (Rounds property count true) = (property ≡ n) × (count ≡ k) × IsReached c k n s
IsGoodAtEnd c (Listing k n (Ended b)) (Rounds property count false) = (property ≡ n) × (count ≡ k)
IsGoodAtEnd c _ _ = ⊥

-- the fault of a text that ends in a state, where a line behind the last one would have this number
abbrev pub IsFaultAtEnd : Circuit → State → ℕ → AnswerFault → Type 0
IsFaultAtEnd c (Running k n (Dotted m s)) number fault = IsRunFault c k n s fault
IsFaultAtEnd c (Listing k n (Ended b)) number fault = ⊥
IsFaultAtEnd c _ number fault = fault ≡ Shape number

-- the lines that end within the limit have this fault, or have none, and then a longer text is too long, and another ends with
-- its fault
abbrev pub IsFirstFault : Circuit → List ℕ → Stepped → AnswerFault → Type 0
IsFirstFault c text (Err (Fault first)) fault = fault ≡ first
IsFirstFault c text (Err (TooLarge variable)) fault = ⊥
IsFirstFault c text (Ok s) fault =
    ((most_bytes < length text) × (fault ≡ TooLong)) ⊎ ((length text ≤ most_bytes) × IsFaultAtEnd c s (end_of text) fault)

-- the text about rounds is not good, and this is its first fault
abbrev pub IsRefusedAbout : Circuit → List ℕ → AnswerFault → Type 0
IsRefusedAbout c text fault = IsFirstFault c text (read_lines c First (kept_readable text)) fault

-- The text is refused: as one about rounds, or, where its first line does not begin so, as an answer.
abbrev pub IsRefusedAs : Bool → Circuit → List ℕ → AnswerFault → Type 0
IsRefusedAs true c text fault = IsRefusedAbout c text fault
IsRefusedAs false c text fault = IsRefused c text fault

-- the text is about rounds whose monitor would have this greatest variable, above the limit
abbrev pub IsTooLargeText : Circuit → List ℕ → ℕ → Type 0
IsTooLargeText c text variable =
    (is_about_rounds (bare (kept_readable text)) ≡ true) × (read_lines c First (kept_readable text) ≡ Err (TooLarge variable))

-- the text decides this end of its check
abbrev pub Decides : Circuit → List ℕ → Result Judged JudgeEnd → Type 0
Decides c text (Ok judged) = IsGoodText c text judged
Decides c text (Err (Answer (ends.Refused fault))) = IsRefusedAs (is_about_rounds (bare (kept_readable text))) c text fault
Decides c text (Err (Answer ends.ReadFault)) = ⊥
Decides c text (Err (Answer ends.Memory)) = ⊥
Decides c text (Err (LargerThan variable)) = IsTooLargeText c text variable

-- the ends that say nothing of the text
abbrev pub read_fault : Result Judged JudgeEnd
read_fault = Err (Answer ends.ReadFault)

abbrev pub no_memory : Result Judged JudgeEnd
no_memory = Err (Answer ends.Memory)

-- what the end of a check says of the text that the shelf may hold, unless memory is refused; a failed read says nothing of it
abbrev pub JudgeSays : Circuit → Option (List ℕ) → Result Judged JudgeEnd → Type 0
JudgeSays c told result =
    GivesSome no_memory (λ end. (end ≡ read_fault) ⊎ ((text : List ℕ) × MayBe told text × Decides c text end)) result

-- this end comes, unless memory is refused or a read fails
abbrev pub EndsWith : Result Judged JudgeEnd → Result Judged JudgeEnd → Type 0
EndsWith result verdict = GivesSome no_memory (λ end. (end ≡ verdict) ⊎ (end ≡ read_fault)) result

-- the call ended with a failed read
abbrev pub has_unread : Result Judged JudgeEnd → Bool
has_unread (Ok judged) = false
has_unread (Err (Answer (ends.Refused fault))) = false
has_unread (Err (Answer ends.ReadFault)) = true
has_unread (Err (Answer ends.Memory)) = false
has_unread (Err (LargerThan variable)) = false

-- The reading of the text ends so, as of one about rounds (scaffolding of inner functions; that a text is read as good exactly
-- where it is is a lemma).
abbrev pub ReadsAs : Circuit → List ℕ → Result Judged JudgeEnd → Type 0
ReadsAs c text (Ok judged) =
    (length text ≤ most_bytes) × (s : State) × (read_lines c First (kept_readable text) ≡ Ok s) × IsGoodAtEnd c s judged
ReadsAs c text (Err (Answer (ends.Refused fault))) = IsRefusedAbout c text fault
ReadsAs c text (Err (Answer ends.ReadFault)) = ⊥
ReadsAs c text (Err (Answer ends.Memory)) = ⊥
ReadsAs c text (Err (LargerThan variable)) = read_lines c First (kept_readable text) ≡ Err (TooLarge variable)
