-- Scaffolding of tests. What is found of the circuit whose latch stays at 0, where the property is that it is 1.
use Rattle.std.specs.Prelude.{◌≡◌, ℕ, ◌<◌, true, false, [], ◌∷◌}
use Rattle.aig_semantics.specs.Examples.{stuck}
use Rattle.fair_semantics.specs.declared.entries.Kind.TheVariants.{Reach}
use Rattle.fair_semantics.specs.Examples.{latch_entry, one_situation}
use Rattle.entry.specs.declared.origins.Origin.TheVariants.{Worker}
use Rattle.entry.specs.CheckedEntries.{CheckedEntry}
use Rattle.wall_store.specs.Boards.{BoardState, properties_of}
use Rattle.wall_store.specs.Events.{seen_by}
use Rattle.wall_ledger.specs.Passes.{LedgerState}

-- the latch is 0 in each state that is reached: found by this worker, and the skeleton in which the latch is 1 excluded
pub record IsFindOf (author : ℕ) (e : CheckedEntry) : Type 0 where
  pub circuit : e.circuit ≡ stuck
  pub entry : e.entry ≡ latch_entry Reach false []
  pub used : e.used ≡ []
  pub origin : e.origin ≡ Worker (record { author = author; turn = 1; skeleton = one_situation true true })

-- a board of that circuit, of which this worker has seen no entry
pub record IsUnseen (b : BoardState) (w : ℕ) : Type 0 where
  pub circuit : b.circuit ≡ stuck
  pub served : properties_of b.served ≡ 0 ∷ []
  pub worker : w < b.workers
  pub seen : seen_by b w ≡ 0

-- a ledger of that circuit
pub record IsStuckLedger (l : LedgerState) : Type 0 where
  pub circuit : l.circuit ≡ stuck
  pub properties : l.properties ≡ 0 ∷ []
