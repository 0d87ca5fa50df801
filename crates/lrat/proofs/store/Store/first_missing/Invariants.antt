use Rattle.std.proofs.Common.{◌≡◌, drop}
use Rattle.proof_semantics.specs.Proofs.{first_missing, ids_of}
use Rattle.lrat.proofs.store.Store.first_missing.Given as goal

-- the ids that are left have the answer
abbrev pub invariant-loop-id : goal.invariant-loop-id
invariant-loop-id l = first_missing l.self.held (ids_of (drop l.id-index l.ids)) ≡ first_missing l.self.held (ids_of l.ids)
