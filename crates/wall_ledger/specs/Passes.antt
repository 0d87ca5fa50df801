-- A ledger is a board behind a lock; its passes are what threads use it by. What a pass knows, and how the board goes
-- on from there. A lock that serves its tickets in order is known from Lamport's bakery (1974); the rules by which
-- passes know of a shared list are this program's.
use Rattle.std.specs.Prelude.{◌≡◌, ◌≢◌, ℕ, zero, suc, ◌+◌, ◌≤◌, ◌==◌, List, [], ◌∷◌, ◌++◌, map, length, Option, Some, None, if◌then◌else◌}
use Rattle.std.specs.List.{Any}
use Rattle.atomic_table.specs.Seated.{TableId}
use Rattle.aig_semantics.specs.Circuits.{Circuit}
use Rattle.entry.specs.declared.origins.Work.{Work}
use Rattle.entry.specs.CheckedEntries.{CheckedEntry, StandIn}
use Rattle.fair_semantics.specs.Skeletons.{IsSkeleton}
use Rattle.wall_store.specs.declared.outcomes.Outcome.{Outcome}
use Rattle.wall_store.specs.declared.outcomes.Served.{Served}
use Rattle.wall_ledger.specs.declared.marks.Shown.{Shown}
use Rattle.wall_ledger.specs.declared.marks.Shown.TheVariants as shows
use Rattle.wall_store.specs.Boards.{BoardState, IsBoard, FromWorker, Allow, plain, properties_of, outcome_of, found_by, Ascend}
use Rattle.wall_store.specs.Events.{seen_by}

-- What a pass shows of a property: nothing; that it won it, with the outcome that it handed in; or that there is an
-- outcome.
pub data Mark : Type 0 where
  blank : Mark
  won : Outcome → Mark
  closed : Mark

-- a property with the mark that a pass has for it
pub record Marked : Type 0 where
  pub property : ℕ
  pub mark : Mark

-- Which ledger it is: its lock, and the board with which it began.
pub record Home : Type 0 where
  pub lock : TableId
  pub first : BoardState

-- A pass: the ledger that it is of, its number, the list that it has seen, the stamp of that list, how many turns it has
-- taken, and its marks, in the order of the properties. The stamp is 0 at first, then one more than the ticket of the
-- turn that the list is from.
pub record PassState : Type 0 where
  pub home : Home
  pub number : ℕ
  pub list : List CheckedEntry
  pub stamp : ℕ
  pub turns : ℕ
  pub marks : List Marked

-- A ledger: which one it is, and what its board was made of.
pub record LedgerState : Type 0 where
  pub home : Home
  pub circuit : Circuit
  pub properties : List ℕ
  pub workers : ℕ
  pub limit : ℕ
  pub given : List CheckedEntry

-- the first list stands in front of the second
abbrev pub StartsWith : List CheckedEntry → List CheckedEntry → Type 0
StartsWith front list = (rest : List CheckedEntry) × (list ≡ front ++ rest)

-- What a mark says of the property's outcome.
abbrev pub IsMarkOf : Mark → Option Outcome → Type 0
IsMarkOf blank outcome = Unit {0}
IsMarkOf (won o) outcome = outcome ≡ Some o
IsMarkOf closed outcome = outcome ≢ None

abbrev pub AreMarksOf : List Marked → List Served → Type 0
AreMarksOf [] served = Unit {0}
AreMarksOf (m ∷ marks) served = IsMarkOf m.mark (outcome_of served m.property) × AreMarksOf marks served

-- the board is one of this ledger
pub record IsBoardOf (l : LedgerState) (b : BoardState) : Type 0 where
  pub board : IsBoard b
  pub circuit : b.circuit ≡ l.circuit
  pub properties : properties_of b.served ≡ l.properties
  pub workers : b.workers ≡ l.workers
  pub limit : b.limit ≡ l.limit
  pub given : b.given ≡ length l.given
  pub front : StartsWith l.given b.entries

-- The board goes on from what the pass knows: its list begins with the pass's, the pass's own entries are those that
-- the pass has seen, and the marks are true.
pub record GoesOn (p : PassState) (b : BoardState) : Type 0 where
  pub list : StartsWith p.list b.entries
  pub seen : seen_by b p.number ≤ length p.list
  pub own : found_by p.number b.entries ≡ found_by p.number p.list
  pub marks : AreMarksOf p.marks b.served

-- The turns in which a pass found its entries ascend, and are below those that it has had.
abbrev pub OwnTurns : PassState → Type 0
OwnTurns p = Ascend p.number p.list p.turns

-- What a pass may post: an entry of its own, of this turn and of the circuit, whose uses stand in the list that the
-- pass has seen, with a skeleton of a served property that this list allows.
pub record IsPassPost (l : LedgerState) (p : PassState) (e : CheckedEntry) (work : Work) : Type 0 where
  pub circuit : e.circuit ≡ l.circuit
  pub author : work.author ≡ p.number
  pub turn : work.turn ≡ p.turns
  pub uses : StandIn (plain p.list) e.used
  pub skeleton : Any (λ j. IsSkeleton l.circuit j work.skeleton) l.properties
  pub allowed : Allow p.list work.skeleton

abbrev pub MayPassPost : LedgerState → PassState → CheckedEntry → Type 0
MayPassPost l p e = FromWorker e.origin (IsPassPost l p e)

-- A new pass has this number and has seen the given list; it has had no turn, and no mark.
abbrev pub new_pass : LedgerState → ℕ → PassState
new_pass l number = record {
  home = l.home;
  number = number;
  list = l.given;
  stamp = 0;
  turns = 0;
  marks = map (λ j. record { property = j; mark = blank }) l.properties;
}

-- so many new passes, numbered from n on
abbrev pub new_passes : LedgerState → ℕ → ℕ → List PassState
new_passes l n zero = []
new_passes l n (suc more) = new_pass l n ∷ new_passes l (n + 1) more

-- what is shown of a mark
abbrev pub shown_by : Mark → Shown
shown_by blank = shows.Blank
shown_by (won o) = shows.Won
shown_by closed = shows.Closed

-- what a pass shows of a property
abbrev pub shown_of : List Marked → ℕ → Shown
shown_of [] j = shows.Blank
shown_of (m ∷ marks) j = if m.property == j then shown_by m.mark else shown_of marks j
