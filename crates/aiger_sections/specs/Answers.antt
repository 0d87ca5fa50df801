-- What a reader of a form of text may answer, by cases on the answer (scaffolding): the public readers say the same by
-- clauses of their own.
use Rattle.std.specs.Prelude.{ℕ, List, Result, Ok, Err}
use Rattle.circuit.specs.declared.faults.ModelFault.{ModelFault}
use Rattle.circuit.specs.declared.faults.ModelEnd.{ModelEnd}
use Rattle.circuit.specs.declared.faults.ModelEnd.TheVariants.{Memory, Fault}
use Rattle.aiger_grammar.specs.Models.{Model}

-- a model for which the bytes stand, or a fault that they have; memory may run out
abbrev pub IsAnswer
    : (Model → List ℕ → Type 0) → (List ℕ → ModelFault → Type 0) → List ℕ → Result Model ModelEnd → Type 0
IsAnswer Text HasFault bytes (Ok m) = Text m bytes
IsAnswer Text HasFault bytes (Err Memory) = Unit {0}
IsAnswer Text HasFault bytes (Err (Fault fault)) = HasFault bytes fault
