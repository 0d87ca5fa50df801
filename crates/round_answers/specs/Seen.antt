-- Scaffolding of inner functions: the states of code as those of the reading, what is kept of them, and what answers say.
use Rattle.std.specs.Prelude.{◌≡◌, Result, Ok, Err}
use Rattle.aig_semantics.specs.Circuits.{Circuit}
use Rattle.aiger_grammar.specs.Models.{Model}
use Rattle.certificate.specs.declared.ends.AnswerEnd.TheVariants as ends
use Rattle.certificate.specs.declared.state.State.{State as WithinInCode}
use Rattle.certificate.specs.Seen as inner
use Rattle.round_monitor.specs.Ends.{IsMonitorable}
use Rattle.round_monitor.specs.Monitor.{monitor_circuit}
use Rattle.round_answers.specs.declared.state.Asked.{Asked}
use Rattle.round_answers.specs.declared.state.State.{State as StateInCode}
use Rattle.round_answers.specs.declared.state.State.TheVariants as states
use Rattle.round_answers.specs.declared.ends.JudgeEnd.{JudgeEnd}
use Rattle.round_answers.specs.declared.ends.JudgeEnd.TheVariants.{Answer, TooLarge as LargerThan}
use Rattle.round_answers.specs.Texts.{MayBeAsked}
use Rattle.round_answers.specs.Telling.{Tells}
use Rattle.round_answers.specs.Reading.{State, First, Named, Chosen, Running, Listing, Stop, Fault, TooLarge, Stepped}

abbrev pub seen : StateInCode → State
seen states.First = First
seen (states.Named k) = Named k
seen (states.Chosen a m) = Chosen a.k a.property
seen (states.Running a s) = Running a.k a.property (inner.seen s)
seen (states.Listing a m s) = Listing a.k a.property (inner.seen s)

-- so many rounds may be asked for of a property that has a monitor, and this model is it
pub record IsAsked (c : Circuit) (a : Asked) (m : Model) : Type 0 where
  pub asked : MayBeAsked a.k
  pub able : IsMonitorable c a.property a.k
  pub circuit : m.circuit ≡ monitor_circuit c a.property a.k
  pub tells : Tells c a.k a.property (monitor_circuit c a.property a.k)

abbrev pub IsKept : Circuit → StateInCode → Type 0
IsKept c states.First = Unit {0}
IsKept c (states.Named k) = MayBeAsked k
IsKept c (states.Chosen a m) = IsAsked c a m
IsKept c (states.Running a s) = MayBeAsked a.k × IsMonitorable c a.property a.k × inner.IsKept c s
IsKept c (states.Listing a m s) = IsAsked c a m × inner.IsKept m.circuit s

-- an answer is the step, and keeps what is kept of its state; want of memory says nothing
abbrev pub TellsStep : Circuit → Stepped → Result StateInCode JudgeEnd → Type 0
TellsStep c stepped (Ok next) = (stepped ≡ Ok (seen next)) × IsKept c next
TellsStep c stepped (Err (Answer (ends.Refused fault))) = stepped ≡ Err (Fault fault)
TellsStep c stepped (Err (Answer ends.ReadFault)) = ⊥
TellsStep c stepped (Err (Answer ends.Memory)) = Unit {0}
TellsStep c stepped (Err (LargerThan variable)) = stepped ≡ Err (TooLarge variable)
