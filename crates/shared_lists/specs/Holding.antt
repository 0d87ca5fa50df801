-- Scaffolding of inner functions. A ledger as the list that the worker shares that has one of its passes.
use Rattle.std.specs.Prelude.{◌≡◌, ◌≤◌, Bool, true, false, map, length}
use Rattle.wall_store.specs.Boards.{most_entries}
use Rattle.wall_ledger.specs.declared.marks.Shown.{Shown}
use Rattle.wall_ledger.specs.declared.marks.Shown.TheVariants as shows
use Rattle.wall_ledger.specs.Passes.{PassState, LedgerState, shown_of}
use Rattle.shared_lists.specs.Knowing.{Known}

-- an outcome is shown
abbrev pub is_shown : Shown → Bool
is_shown shows.Blank = false
is_shown shows.Won = true
is_shown shows.Closed = true

-- what a pass knows of its ledger
abbrev pub known_by : LedgerState → PassState → Known
known_by l p = record {
  circuit = l.circuit;
  properties = l.properties;
  number = p.number;
  turns = p.turns;
  given = length l.given;
  limit = l.limit;
  list = p.list;
  settled = λ j. is_shown (shown_of p.marks j);
}

-- A pass of the ledger, whose list is one of the ledger's circuit, with a mark for each property that is served.
pub record IsPassOf (l : LedgerState) (p : PassState) : Type 0 where
  pub home : p.home ≡ l.home
  pub circuit : l.home.first.circuit ≡ l.circuit
  pub marks : map (λ m. m.property) p.marks ≡ l.properties
  pub limit : l.limit ≤ most_entries

-- what a call leaves of a ledger and its pass
pub record StaysHeld (l : LedgerState) (p : PassState) (m : LedgerState) (q : PassState) : Type 0 where
  pub pass : IsPassOf m q
  pub ledger : m ≡ l
  pub number : q.number ≡ p.number
