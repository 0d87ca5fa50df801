-- Laws of boards, for workers and for whoever judges the list.
use Rattle.std.specs.Prelude.{ℕ, List, [], ◌∷◌, ◌++◌}
use Rattle.aig_semantics.specs.Circuits.{Circuit}
use Rattle.fair_semantics.specs.declared.entries.Use.{Use}
use Rattle.fair_semantics.specs.Entries.{used_entries, AreClosed}
use Rattle.entry.specs.CheckedEntries.{CheckedEntry, StandIn}
use Rattle.wall_store.specs.declared.outcomes.Outcome.{Outcome}
use Rattle.wall_store.specs.Boards.{BoardState, plain, IsSound, IsSoundList, IsTrueOf}
use Rattle.wall_store.specs.Events.{list_of}

-- The entries that closed uses name among those that a worker has seen stand in the list. So do the uses of an entry
-- that was checked behind these.
abbrev pub SeenUsesStand : BoardState → ℕ → Type 0
SeenUsesStand b w =
    (uses : List Use) → AreClosed (plain (list_of b w)) uses
    → StandIn (plain b.entries) (used_entries (plain (list_of b w)) uses)

-- An outcome that is true over a list is true over each list that goes on from it.
abbrev pub OutcomesStay : Circuit → Type 0
OutcomesStay c =
    (entries after : List CheckedEntry) (j : ℕ) (o : Outcome)
    → IsTrueOf c entries j o → IsTrueOf c (entries ++ after) j o

-- No entries are a sound list, and with one that is sound behind them sound lists stay sound.
pub record SoundListsGrow (c : Circuit) : Type 0 where
  pub none : IsSoundList c []
  pub more : (before : List CheckedEntry) (e : CheckedEntry) → IsSoundList c before → IsSound c before e
      → IsSoundList c (before ++ e ∷ [])
