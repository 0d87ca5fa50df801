-- The steps of reading symbols (scaffolding).
use Rattle.std.specs.Prelude.{ℕ, List, Option, Some, None, Result, Ok, Err}
use Rattle.circuit.specs.declared.faults.ModelFault.{ModelFault}
use Rattle.aiger_grammar.specs.declared.names.Symbol.{Symbol}
use Rattle.aiger_grammar.specs.declared.names.Counts.{Counts}
use Rattle.aiger_grammar.specs.Names.{symbol_at, fault_at}

-- a symbol by its letter, index and name, and what stands behind it
abbrev pub symbol_from : ℕ → ℕ → List ℕ → List ℕ → Symbol × List ℕ
symbol_from letter index name rest = (record { letter = letter; index = index; name = name }, rest)

abbrev pub or_fault : {A : Type 0} → Option A → ModelFault → Result A ModelFault
or_fault (Some x) fault = Ok x
or_fault None fault = Err fault

-- the symbol whose line is at the front, or the fault where there is none
abbrev pub symbol_or_fault : Counts → ℕ → List ℕ → Result (Symbol × List ℕ) ModelFault
symbol_or_fault counts total bytes = or_fault (symbol_at counts bytes) (fault_at total bytes)
