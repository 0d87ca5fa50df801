use Rattle.std.proofs.Common.{◌≡◌, drop, ◌++◌, ◌∷◌, []}
use Rattle.proof_semantics.specs.Proofs.{clause_at, ids_of}
use Rattle.proof_semantics.specs.Propagation.{hints_fault}
use Rattle.lrat.proofs.propagation.hints_fault.Given as goal

-- the hints that are left have the answer
abbrev pub invariant-loop-hint : goal.invariant-loop-hint
invariant-loop-hint l =
    hints_fault (clause_at l.store.held) l.marks (ids_of (drop l.hint-index l.firsts ++ l.last ∷ []))
    ≡ hints_fault (clause_at l.store.held) l.initial.marks (ids_of l.hints)
