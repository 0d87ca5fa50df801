use Rattle.std.proofs.Common.{◌≡◌, drop}
use Rattle.proof_semantics.specs.Proofs.{with_deletion, ids_of}
use Rattle.lrat.proofs.store.Store.delete.Given as goal

-- to delete the ids that are left gives the answer
abbrev pub invariant-loop-id : goal.invariant-loop-id
invariant-loop-id l = with_deletion l.self (ids_of (drop l.id-index l.ids)) ≡ with_deletion l.initial.self (ids_of l.ids)
