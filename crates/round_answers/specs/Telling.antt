-- Scaffolding of inner functions: what their answers say of runs, of ends and of the monitor.
use Rattle.std.specs.Prelude.{◌≡◌, ◌↔◌, ℕ, Bool, true, false, Result, Ok, Err}
use Rattle.aig_semantics.specs.declared.traces.Stimulus.{Stimulus}
use Rattle.aig_semantics.specs.Circuits.{Circuit, IsChecked}
use Rattle.certificate.specs.declared.ends.AnswerFault.{AnswerFault}
use Rattle.certificate.specs.declared.ends.AnswerEnd.TheVariants as ends
use Rattle.entry.specs.Laws.{GoodListsGrow}
use Rattle.round_monitor.specs.Counting.{HasFullRun, HasRunOfRounds}
use Rattle.round_monitor.specs.Monitor.{monitor_circuit}
use Rattle.round_answers.specs.declared.ends.Judged.{Judged}
use Rattle.round_answers.specs.declared.ends.Judged.TheVariants.{Rounds}
use Rattle.round_answers.specs.declared.ends.JudgeEnd.{JudgeEnd}
use Rattle.round_answers.specs.declared.ends.JudgeEnd.TheVariants.{Answer, TooLarge as LargerThan}
use Rattle.round_answers.specs.Texts.{MayBeAsked}
use Rattle.round_answers.specs.Answers.{IsReached}
use Rattle.round_answers.specs.Reading.{State}
use Rattle.round_answers.specs.Ends.{IsRunFault, IsGoodAtEnd, IsFaultAtEnd}

-- what the code of a circuit in hand tells of it as a monitor
pub record Tells (c : Circuit) (k n : ℕ) (t : Circuit) : Type 0 where
  pub checked : IsChecked t
  pub grow : GoodListsGrow t
  pub exact : HasFullRun t ↔ HasRunOfRounds c n k

-- an answer is how a run that is whole ends; want of memory says nothing
abbrev pub TellsRun : Circuit → ℕ → ℕ → Stimulus → Result Judged JudgeEnd → Type 0
TellsRun c k n s (Ok judged) = (judged ≡ Rounds n k true) × IsReached c k n s
TellsRun c k n s (Err (Answer (ends.Refused fault))) = IsRunFault c k n s fault
TellsRun c k n s (Err (Answer ends.ReadFault)) = ⊥
TellsRun c k n s (Err (Answer ends.Memory)) = Unit {0}
TellsRun c k n s (Err (LargerThan variable)) = ⊥

-- an answer is how a text ends in this state, which ends so alone; want of memory says nothing
abbrev pub TellsEnd : Circuit → State → ℕ → Result Judged JudgeEnd → Type 0
TellsEnd c s number (Ok judged) =
    IsGoodAtEnd c s judged × ((other : Judged) → IsGoodAtEnd c s other → judged ≡ other)
    × ((fault : AnswerFault) → IsFaultAtEnd c s number fault → ⊥)
TellsEnd c s number (Err (Answer (ends.Refused fault))) =
    IsFaultAtEnd c s number fault × ((other : AnswerFault) → IsFaultAtEnd c s number other → fault ≡ other)
    × ((judged : Judged) → IsGoodAtEnd c s judged → ⊥)
TellsEnd c s number (Err (Answer ends.ReadFault)) = ⊥
TellsEnd c s number (Err (Answer ends.Memory)) = Unit {0}
TellsEnd c s number (Err (LargerThan variable)) = ⊥

-- what is known of the monitor of a text that says that no run has k rounds
abbrev pub KnowsMonitor : Circuit → Judged → Type 0
KnowsMonitor c (Rounds n k false) = MayBeAsked k × Tells c k n (monitor_circuit c n k)
KnowsMonitor c _ = Unit {0}
