-- Scaffolding of inner functions. A board as the list that one of its workers shares for a turn, and what a turn leaves of it.
use Rattle.std.specs.Prelude.{◌≡◌, ◌≢◌, ℕ, ◌+◌, ◌<◌, ◌≤◌, List, ◌++◌, length, is_some, None}
use Rattle.std.specs.List.{All}
use Rattle.entry.specs.CheckedEntries.{CheckedEntry}
use Rattle.wall_store.specs.Boards.{BoardState, IsBoard, FromWorker, properties_of, outcome_of}
use Rattle.wall_store.specs.Events.{seen_by, list_of}
use Rattle.shared_lists.specs.declared.lending.LentBoard.{LentBoard}
use Rattle.shared_lists.specs.Knowing.{Known}

-- what worker n of a board knows of it, after so many turns
abbrev pub known_at : BoardState → ℕ → ℕ → Known
known_at b n turns = record {
  circuit = b.circuit;
  properties = properties_of b.served;
  number = n;
  turns = turns;
  given = b.given;
  limit = b.limit;
  list = list_of b n;
  settled = λ j. is_some (outcome_of b.served j);
}

-- ---- lent boards

abbrev pub known_of : LentBoard → Known
known_of s = known_at s.board s.number s.turns

-- lent to a worker of the board, which has seen so many entries
pub record IsLent (s : LentBoard) : Type 0 where
  pub board : IsBoard s.board
  pub number : s.number < s.board.workers
  pub seen : s.seen ≡ seen_by s.board s.number

-- worker n found the entry in this turn
abbrev pub IsOfTurn : ℕ → ℕ → CheckedEntry → Type 0
IsOfTurn n turn e = FromWorker e.origin (λ work. (work.author ≡ n) × (work.turn ≡ turn))

-- What the events of worker n in one of its turns leave of a board: entries and outcomes stay, and what the other workers
-- have seen; what is added is of this worker and turn, and then it has seen more.
pub record GoesOnBy (n turn : ℕ) (b c : BoardState) : Type 0 where
  pub circuit : c.circuit ≡ b.circuit
  pub properties : properties_of c.served ≡ properties_of b.served
  pub workers : c.workers ≡ b.workers
  pub limit : c.limit ≡ b.limit
  pub given : c.given ≡ b.given
  pub entries : (more : List CheckedEntry) × (c.entries ≡ b.entries ++ more) × All (IsOfTurn n turn) more
  pub outcomes : (j : ℕ) → outcome_of b.served j ≢ None → outcome_of c.served j ≢ None
  pub others : (m : ℕ) → m ≢ n → seen_by c m ≡ seen_by b m
  pub quiet : seen_by c n ≤ seen_by b n → length c.entries ≤ length b.entries

-- What a call leaves of a lent board: it takes one turn at most, and adds no entry without one.
pub record StaysLent (s t : LentBoard) : Type 0 where
  pub lent : IsLent t
  pub number : t.number ≡ s.number
  pub board : GoesOnBy s.number s.turns s.board t.board
  pub one : t.turns ≤ s.turns + 1
  pub paid : length t.board.entries + s.turns ≤ length s.board.entries + t.turns
