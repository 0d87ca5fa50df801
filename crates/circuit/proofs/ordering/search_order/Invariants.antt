use Rattle.std.proofs.Common.{◌≡◌, [], false, take}
use Rattle.std.specs.List.{All}
use Rattle.circuit.specs.Sections.{circuit_of}
use Rattle.circuit.specs.Ordering.{IsSearch, is_waiting, progress_at}
use Rattle.circuit.proofs.ordering.search_order.Given as goal

abbrev pub invariant-loop-gate : goal.invariant-loop-gate
invariant-loop-gate l =
    IsSearch (circuit_of l.parts) l.search.progress.items [] l.search.order.items
    × (l.search.path.items ≡ [])
    × All (λ gate. is_waiting (progress_at l.search.progress.items gate.var) ≡ false) (take l.gate-index l.parts.gates)
