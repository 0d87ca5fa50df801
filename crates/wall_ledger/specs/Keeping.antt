-- What ledgers and passes keep (scaffolding).
use Rattle.std.specs.Prelude.{◌≡◌, ◌≤◌}
use Rattle.std.specs.Arc.{arc_value}
use Rattle.wall_ledger.specs.declared.ledger.Ledger.TheInside.{Inside as LedgerInside}
use Rattle.wall_ledger.specs.declared.ledger.Pass.TheInside.{Inside as PassInside}
use Rattle.wall_ledger.specs.Passes.{PassState, LedgerState}
use Rattle.wall_ledger.specs.Hands.{ledger_of, state_of, IsResting}

abbrev pub ledger_as : LedgerInside → LedgerState
ledger_as s = ledger_of s.gate.table.shared.table_id s.gate.table.shared.key.value

abbrev pub pass_as : PassInside → PassState
pass_as s = state_of s.hand

abbrev pub IsKept : PassInside → Type 0
IsKept s = IsResting s.hand

-- there is a worker, and the circuit is that of the board with which the ledger began
pub record IsStaffed (s : LedgerInside) : Type 0 where
  pub workers : 1 ≤ s.gate.table.shared.key.value.workers
  pub circuit : arc_value s.circuit ≡ s.gate.table.shared.key.value.circuit
