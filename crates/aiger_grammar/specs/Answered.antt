-- What a reader answers, by cases on the answer, so that it computes along the reader's steps (scaffolding). It says
-- what `Gives` of the crate unless_memory says: the answer is what is read, unless memory is refused.
use Rattle.std.specs.Prelude.{◌≡◌, Result, Ok, Err}
use Rattle.circuit.specs.declared.faults.ModelFault.{ModelFault}
use Rattle.circuit.specs.declared.faults.ModelEnd.{ModelEnd}
use Rattle.circuit.specs.declared.faults.ModelEnd.TheVariants as ends

-- the call failed as the reading did, or was refused memory
abbrev pub FailsAs : {Y : Type 0} → ModelEnd → Result Y ModelFault → Type 0
FailsAs ends.Memory read = Unit {0}
FailsAs (ends.Fault fault) read = read ≡ Err fault

-- what the call answered, seen by view, is what is read, or it was refused memory
abbrev pub GivesRead : {X Y : Type 0} → (X → Y) → Result X ModelEnd → Result Y ModelFault → Type 0
GivesRead view (Ok x) read = read ≡ Ok (view x)
GivesRead view (Err e) read = FailsAs e read
