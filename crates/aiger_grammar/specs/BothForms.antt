-- What the ASCII and the binary form of a text share (AIGER 1.9; Biere, Heljanko, Wieringa, 2011): how its parts are
-- read one behind the other, the model of what was read, and the first fault. The faults, their order and their places
-- are this program's.
use Rattle.std.specs.Prelude.{◌≡◌, ◌⊎◌, ℕ, List, length, Result, Ok, Err, nat_lt, if◌then◌else◌}
use Rattle.aig_semantics.specs.declared.limits.TheConstants.{MAX_MODEL_BYTES}
use Rattle.circuit.specs.declared.parts.Parts.{Parts}
use Rattle.circuit.specs.declared.faults.ModelFault.{ModelFault}
use Rattle.circuit.specs.declared.faults.ModelFault.TheVariants.{Cycle, Limit}
use Rattle.circuit.specs.Sections.{circuit_of}
use Rattle.circuit.specs.Faults.{HasFault, IsOnlyOnCycle}
use Rattle.aiger_grammar.specs.declared.names.Names.{Names}
use Rattle.aiger_grammar.specs.declared.sections.Heading.{Heading}
use Rattle.aiger_grammar.specs.Models.{Model}
use Rattle.aiger_grammar.specs.Reading.{Reader, ◌>>=◌}
use Rattle.aiger_grammar.specs.Names.{counts_of, names_at}

-- the model of what was read
abbrev pub model_of : Parts → Names → Model
model_of parts names = record { circuit = circuit_of parts; outputs = parts.outputs; bad = parts.bad; names = names }

-- the sections, and the names that were read behind them
abbrev pub with_names : Parts → Result Names ModelFault → Result (Parts × Names) ModelFault
with_names parts (Ok names) = Ok (parts, names)
with_names parts (Err fault) = Err fault

-- A text read from the left to its end, by what reads the header and what reads the sections of its form: its sections
-- and names, or the first fault that one comes to. A text that is too long is not read.
abbrev pub text_at : (ℕ → Reader Heading) → (Heading → ℕ → Reader Parts) → List ℕ → Result (Parts × Names) ModelFault
text_at header_at sections_at bytes =
    if nat_lt MAX_MODEL_BYTES (length bytes) then Err (Limit MAX_MODEL_BYTES)
    else (header_at (length bytes) bytes >>= λ h body.
    sections_at h (length bytes) body >>= λ parts rest.
    with_names parts (names_at (counts_of h) (length bytes) rest))

-- The fault of a model whose text was read whole: the least variable that is defined twice; where there is none, the
-- least undefined one; where there is neither, a gate on a cycle.
abbrev pub HasPartsFault : Parts → ModelFault → Type 0
HasPartsFault parts (Cycle v) = IsOnlyOnCycle parts v
HasPartsFault parts fault = HasFault parts fault

-- the first fault: of the reading, or of what was read
abbrev pub IsFirstFault : Result (Parts × Names) ModelFault → ModelFault → Type 0
IsFirstFault (Ok read) fault = HasPartsFault read.0 fault
IsFirstFault (Err first) fault = first ≡ fault

-- the same fault, but for a cycle, which is said at any of the gates on one
abbrev pub SameFault : ModelFault → ModelFault → Type 0
SameFault first second = (first ≡ second) ⊎ ((v : ℕ) × (w : ℕ) × (first ≡ Cycle v) × (second ≡ Cycle w))
