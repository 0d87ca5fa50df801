-- Checked entries, of which a list is made that several searches share: what they keep, and behind which entries they
-- hold; after the walls and reachability sets of FAIR (Bradley, Somenzi, Hassan, Zhang, 2011). That an entry stands
-- behind others than those that it was checked behind is this program's.
use Rattle.std.specs.Prelude.{◌≡◌, ℕ, ◌<◌, true, List, ◌∷◌, ◌++◌, map, length}
use Rattle.std.specs.List.{All}
use Rattle.std.specs.Arc.{arc_value}
use Rattle.std.specs.declared.sync.Arc.{Arc}
use Rattle.aig_semantics.specs.Circuits.{Circuit}
use Rattle.fair_semantics.specs.declared.entries.Use.{Use}
use Rattle.fair_semantics.specs.Entries.{Entry, Numbered, entry_at, used_entries, AreClosed}
use Rattle.fair_semantics.specs.Skeletons.{excludes}
use Rattle.fair_semantics.specs.Validity.{IsValid}
use Rattle.fair_semantics.specs.Laws.{SayTheSame}
use Rattle.entry.specs.Proved.{IsProved, IsGoodRefutation}
use Rattle.entry.specs.declared.origins.Origin.{Origin}
use Rattle.entry.specs.declared.origins.Origin.TheVariants.{Given, Worker}

-- An entry of a circuit with its proofs, the entries that it uses as they stood where it was checked, where it is from,
-- and how many entries it was checked behind.
pub record CheckedEntry : Type 0 where
  pub circuit : Circuit
  pub entry : Entry
  pub proofs : List (List (List ℕ))
  pub used : List Numbered
  pub origin : Origin
  pub seen : ℕ

-- the entry with these proofs, checked behind these entries
abbrev pub checked_behind : Circuit → List Entry → Entry → List (List (List ℕ)) → Origin → CheckedEntry
checked_behind c before e proofs origin = record {
  circuit = c;
  entry = e;
  proofs = proofs;
  used = used_entries before e.uses;
  origin = origin;
  seen = length before;
}

-- the entry of a shared one
abbrev pub entry_in : {Z : Type 0} → Arc CheckedEntry Z → Entry
entry_in shared = (arc_value {X = CheckedEntry} shared).entry

-- the checked entries of a view, which is a list of shared ones
abbrev pub checked_in : {Z : Type 0} → List (Arc CheckedEntry Z) → List CheckedEntry
checked_in view = map (arc_value {X = CheckedEntry}) view

-- the entries of a view
abbrev pub viewed : {Z : Type 0} → List (Arc CheckedEntry Z) → List Entry
viewed view = map entry_in view

-- the entries are the earlier ones, and possibly more behind them
abbrev pub GoesOnFrom : List Entry → List Entry → Type 0
GoesOnFrom earlier entries = (more : List Entry) × (entries ≡ earlier ++ more)

-- Used entries stand in a list: at each one's number there is an entry of the same kind, with the same clauses and
-- named sides.
abbrev pub StandIn : List Entry → List Numbered → Type 0
StandIn entries used = All (λ u. (u.number < length entries) × SayTheSame (entry_at entries u.number) u.entry) used

-- entry n of these excludes the skeleton of this origin, if it has one
abbrev pub ExcludesFrom : Origin → List Entry → ℕ → Type 0
ExcludesFrom Given entries n = Unit {0}
ExcludesFrom (Worker work) entries n = excludes entries n work.skeleton ≡ true

-- Behind these entries the checked one is valid, its proofs prove it, and whatever follows it there it excludes its
-- skeleton.
pub record HoldsBehind (before : List Entry) (e : CheckedEntry) : Type 0 where
  pub valid : IsValid e.circuit before e.entry
  pub proved : IsProved e.circuit before e.entry e.proofs
  pub apart : (after : List Entry) → ExcludesFrom e.origin (before ++ e.entry ∷ after) (length before)

-- A checked entry holds behind all entries among which those that it uses stand.
abbrev pub HoldsWhereUsesStand : CheckedEntry → Type 0
HoldsWhereUsesStand e = (before : List Entry) → StandIn before e.used → HoldsBehind before e

-- What stands in a list stands in each list that goes on from it.
abbrev pub StandOn : Type 0
StandOn = (before after : List Entry) (used : List Numbered) → StandIn before used → StandIn (before ++ after) used

-- The entries that closed uses name stand in their list.
abbrev pub ClosedUsesStand : Type 0
ClosedUsesStand =
    (before : List Entry) (uses : List Use) → AreClosed before uses → StandIn before (used_entries before uses)

-- A refutation that is good over a list is good over each list that goes on from it.
abbrev pub RefutationsStay : Circuit → Type 0
RefutationsStay c =
    (entries after : List Entry) (j : ℕ) (uses : List Use) (proof : List (List ℕ))
    → IsGoodRefutation c entries j uses proof → IsGoodRefutation c (entries ++ after) j uses proof
