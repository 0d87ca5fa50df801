-- Scaffolding of inner functions: the states of code as those of the reading, what is kept of them, and what answers say.
use Rattle.std.specs.Prelude.{◌≡◌, ◌≤◌, ◌<◌, ℕ, length, Result, Ok, Err}
use Rattle.aig_semantics.specs.Circuits.{Circuit}
use Rattle.entry.specs.Listing.{entries_of}
use Rattle.certificate.specs.declared.limits.TheConstants.{MAX_ENTRIES}
use Rattle.certificate.specs.declared.ends.AnswerFault.{AnswerFault}
use Rattle.certificate.specs.declared.ends.AnswerEnd.TheVariants as answer_ends
use Rattle.certificate.specs.declared.state.Body.{Body as BodyInCode}
use Rattle.certificate.specs.Seen as inner
use Rattle.round_answers.specs.declared.ends.JudgeEnd.TheVariants as text_ends
use Rattle.sheet_answers.specs.declared.state.State.{State as StateInCode}
use Rattle.sheet_answers.specs.declared.state.State.TheVariants as states
use Rattle.sheet_answers.specs.declared.found.Accepted.{Accepted}
use Rattle.sheet_answers.specs.declared.ends.JudgeEnd.{JudgeEnd}
use Rattle.sheet_answers.specs.declared.ends.JudgeEnd.TheVariants as ends
use Rattle.sheet_answers.specs.Sheets.{Counts, total}
use Rattle.sheet_answers.specs.Reading.{State, First, Versioned, Listing, Between, Refuting, Proving, Showing, Done, Fault, Plain, InBlock, Stepped}
use Rattle.sheet_answers.specs.Ends.{IsFaultAtEnd}

abbrev pub seen : StateInCode → State
seen states.First = First
seen states.Versioned = Versioned
seen (states.Listing s) = Listing (inner.seen s)
seen (states.Between t b) = Between t (entries_of b.list)
seen (states.Refuting t b) = Refuting t (entries_of b.list)
seen (states.Proving t s) = Proving t (inner.seen s)
seen (states.Showing t b s) = Showing t (entries_of b.list) (inner.seen s)
seen (states.Done t b) = Done t (entries_of b.list)

-- there are no more entries than a sheet may have
abbrev pub AreFew : BodyInCode → Type 0
AreFew b = length b.list ≤ MAX_ENTRIES

-- what the code keeps of a state: how many blocks were read at most, and what is kept of the state within
abbrev pub IsKept : Circuit → StateInCode → Type 0
IsKept c (states.Listing s) = inner.IsKept c s
IsKept c (states.Between t b) = (total t ≤ length c.justice) × AreFew b
IsKept c (states.Refuting t b) = (total t < length c.justice) × AreFew b
IsKept c (states.Proving t s) = (total t < length c.justice) × inner.IsKept c s
IsKept c (states.Showing t b s) = (total t < length c.justice) × AreFew b × inner.IsKept c s
IsKept c (states.Done t b) = AreFew b
IsKept c _ = Unit {0}

-- what is said of the fault of an end, if it has one; no read is made
abbrev pub OfEnd : (Fault → Type 0) → JudgeEnd → Type 0
OfEnd P (ends.Text (text_ends.Answer (answer_ends.Refused fault))) = P (Plain fault)
OfEnd P (ends.Text (text_ends.Answer answer_ends.ReadFault)) = ⊥
OfEnd P (ends.Text (text_ends.Answer answer_ends.Memory)) = Unit {0}
OfEnd P (ends.Text (text_ends.TooLarge variable)) = ⊥
OfEnd P (ends.Block n fault) = P (InBlock n fault)

-- an answer is the step, and keeps what is kept of its state; want of memory says nothing
abbrev pub TellsStep : Circuit → Stepped → Result StateInCode JudgeEnd → Type 0
TellsStep c stepped (Ok next) = (stepped ≡ Ok (seen next)) × IsKept c next
TellsStep c stepped (Err end) = OfEnd (λ fault. stepped ≡ Err fault) end

-- the state, at the end of a text, is that of a good sheet, of which this is accepted
abbrev pub IsGoodAtEnd : State → Accepted → Type 0
IsGoodAtEnd (Done t entries) a = (a.counts ≡ t) × (a.entries ≡ length entries)
IsGoodAtEnd _ a = ⊥

-- an answer is how a text ends in this state, which ends so alone; want of memory says nothing
abbrev pub TellsEnd : State → ℕ → Result Accepted JudgeEnd → Type 0
TellsEnd s number (Ok a) = IsGoodAtEnd s a × ((fault : Fault) → IsFaultAtEnd s number fault → ⊥)
TellsEnd s number (Err end) = OfEnd (λ fault. IsFaultAtEnd s number fault × ((a : Accepted) → IsGoodAtEnd s a → ⊥)) end
