-- What a pass keeps in memory, beside what the lock knows of it (scaffolding).
use Rattle.std.specs.Prelude.{◌≡◌, ℕ, ◌+◌, ◌≤◌, List, [], ◌∷◌, map, length, vec_capacity, Option, Some, None}
use Rattle.std.specs.Arc.{arc_value}
use Rattle.atomic_table.specs.Seated.{TableId}
use Rattle.entry.specs.CheckedEntries.{CheckedEntry}
use Rattle.wall_store.specs.Boards.{BoardState, IsSoundList, most_entries, properties_of, Ascend}
use Rattle.wall_ledger.specs.declared.pass.Hand.{Hand}
use Rattle.wall_ledger.specs.declared.lock.Stage.{Stage}
use Rattle.wall_ledger.specs.declared.lock.Stage.TheVariants.{Idle, Waiting, Holding, Raised}
use Rattle.wall_ledger.specs.Passes.{PassState, LedgerState}
use Rattle.wall_ledger.specs.Rules.{Face, IsTold, Event}
use Rattle.wall_ledger.specs.Tickets.{ticket_of}
use Rattle.wall_ledger.specs.Shows.{mark_shown}

abbrev pub head_or : Face → List Face → Face
head_or f [] = f
head_or f (g ∷ fs) = g

abbrev pub number_or : Option ℕ → ℕ
number_or None = 0
number_or (Some k) = k

-- what the lock knows of the pass
abbrev pub face_in : Hand → Face
face_in s = head_or
    (record { first = s.first.value.value; number = None; list = []; stamp = 0; turns = 0; marks = [] })
    s.place.me.0.client

-- a pass of a lock
abbrev pub pass_of : TableId → Face → PassState
pass_of lock f = record {
  home = record { lock = lock; first = f.first };
  number = number_or f.number;
  list = f.list;
  stamp = f.stamp;
  turns = f.turns;
  marks = f.marks;
}

abbrev pub state_of : Hand → PassState
state_of s = pass_of s.place.table_id (face_in s)

-- what is in memory is what this face has, and this list
pub record IsMirror (s : Hand) (l : List CheckedEntry) (f : Face) : Type 0 where
  pub first : f.first ≡ s.first.value.value
  pub number : f.number ≡ Some s.number
  pub list : l ≡ map arc_value s.entries.items
  pub stamp : f.stamp ≡ s.stamp
  pub turns : f.turns ≡ s.turns
  pub shown : map mark_shown f.marks ≡ s.marks.items
  pub kinds : map (λ m. m.property) f.marks ≡ properties_of f.first.served
  pub room : f.first.limit ≤ vec_capacity s.entries
  pub within : length l ≤ f.first.limit
  pub few : f.first.limit ≤ most_entries
  pub sound : IsSoundList f.first.circuit l

-- The pass has no turn. Of 4,294,967,295 turns it has those left that it did not take.
pub record IsResting (s : Hand) : Type 0 where
  pub only : s.place.me.0.client ≡ face_in s ∷ []
  pub mirror : IsMirror s (face_in s).list (face_in s)
  pub ascend : Ascend s.number (face_in s).list s.turns
  pub stage : s.place.me.0.stage ≡ Idle
  pub empty : s.place.me.1 ≡ []
  pub budget : s.place.me.0.budget + s.turns ≡ 4294967295

-- the board that was found in the turn, and its ticket
abbrev pub value_or : BoardState → Stage BoardState → BoardState
value_or b Idle = b
value_or b (Waiting t) = b
value_or b (Holding t x) = x
value_or b (Raised t x) = x

abbrev pub board_in : Hand → BoardState
board_in s = value_or s.first.value.value s.place.me.0.stage

abbrev pub ticket_in : Hand → ℕ
ticket_in s = ticket_of s.place.me.0.stage

-- the pass has the turn, and the board is out of its slot
pub record HasTurn (s : Hand) : Type 0 where
  pub only : s.place.me.0.client ≡ face_in s ∷ []
  pub stage : s.place.me.0.stage ≡ Holding (ticket_in s) (board_in s)
  pub out : s.place.me.1 ≡ (0, None) ∷ []
  pub budget : s.place.me.0.budget + (face_in s).turns + 1 ≡ 4294967295
  pub ascend : Ascend s.number (face_in s).list (face_in s).turns
  pub told : IsTold (ticket_in s) (board_in s) (face_in s)

-- The turn of the pass ends: it becomes g by an event that leaves the board y, and memory has what g has.
pub record IsEnding (s : Hand) (y : BoardState) (g : Face) : Type 0 where
  pub event : Event (ticket_in s) (board_in s) y s.number (face_in s) g
  pub mirror : IsMirror s g.list g
  pub turns : g.turns ≡ (face_in s).turns + 1
  pub ascend : Ascend s.number g.list g.turns

-- the ledger of a lock whose board began with this one
abbrev pub ledger_of : TableId → BoardState → LedgerState
ledger_of lock first = record {
  home = record { lock = lock; first = first };
  circuit = first.circuit;
  properties = properties_of first.served;
  workers = first.workers;
  limit = first.limit;
  given = first.entries;
}

-- the same pass in memory, with another list, stamp, number of turns and marks
abbrev pub noting : Hand → ℕ → Hand
noting s stamp = record s { stamp = stamp; turns = s.turns + 1 }
