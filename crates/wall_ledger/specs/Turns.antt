-- What a pass knows after a turn: one event of the board, as it stood in that turn. The events themselves are those of
-- the board (this program's; the list is that of FAIR: Bradley, Somenzi, Hassan, Zhang, 2011).
use Rattle.std.specs.Prelude.{◌≡◌, ℕ, ◌+◌, ◌<◌, ◌≤◌, ◌⊎◌, ◌==◌, ◌&&◌, Bool, true, List, [], ◌∷◌, map, length, min, nat_le, nat_lt, Option, Some, None, if◌then◌else◌}
use Rattle.std.specs.List.{All, Any, Contains}
use Rattle.entry.specs.CheckedEntries.{CheckedEntry}
use Rattle.wall_store.specs.declared.outcomes.Outcome.{Outcome}
use Rattle.wall_store.specs.declared.outcomes.Posted.{Posted}
use Rattle.wall_store.specs.declared.outcomes.Posted.TheVariants as posts
use Rattle.wall_store.specs.declared.outcomes.Finished.{Finished}
use Rattle.wall_store.specs.declared.outcomes.Finished.TheVariants as ends
use Rattle.aig_semantics.specs.Circuits.{Circuit}
use Rattle.wall_store.specs.Boards.{BoardState, outcome_of, first_board, most_entries, found_by}
use Rattle.wall_store.specs.Events.{Looks, Posts, Finishes, OpensNext}
use Rattle.wall_ledger.specs.Passes.{Mark, blank, won, closed, Marked, PassState, LedgerState, StartsWith, IsBoardOf, GoesOn, new_passes}

-- ---- marks

-- one of the marks says that property j was won with this outcome
abbrev pub HasWon : ℕ → Outcome → List Marked → Type 0
HasWon j o [] = ⊥
HasWon j o (m ∷ marks) = ((m.property ≡ j) × (m.mark ≡ won o)) ⊎ HasWon j o marks

-- a mark that was won stays; any other is closed
abbrev pub closed_unless_won : Mark → Mark
closed_unless_won blank = closed
closed_unless_won (won o) = won o
closed_unless_won closed = closed

-- the properties that pass the test are marked closed, unless they were won
abbrev pub closing : (ℕ → Bool) → List Marked → List Marked
closing test marks =
    map (λ (m : Marked). if test m.property then record m { mark = closed_unless_won m.mark } else m) marks

-- after a post: closed all round where that was the answer
abbrev pub marks_posted : List Marked → Posted → List Marked
marks_posted marks posts.Closed = closing (λ i. true) marks
marks_posted marks posts.Full = marks
marks_posted marks (posts.Stale n) = marks
marks_posted marks (posts.Appended n) = marks

-- after an outcome of property j was handed in
abbrev pub marks_finished : List Marked → ℕ → Outcome → Finished → List Marked
marks_finished marks j o ends.Won = map (λ (m : Marked). if m.property == j then record m { mark = won o } else m) marks
marks_finished marks j o ends.Closed = closing (λ i. i == j) marks

-- the properties that a search from a number on passes over, before it finds j
abbrev pub is_passed : ℕ → ℕ → ℕ → Bool
is_passed least j i =
    if nat_le least j then nat_le least i && nat_lt i j else if nat_lt i j then true else nat_le least i

abbrev pub marks_opened : List Marked → ℕ → Option ℕ → List Marked
marks_opened marks least None = closing (λ i. true) marks
marks_opened marks least (Some j) = closing (is_passed least j) marks

-- ---- turns

-- A turn of the pass: the board before it, which goes on from what the pass knew, and the board after it, which goes on
-- from what the pass then knows. It is one turn more, and the pass stays that of this lock.
pub record Turn (l : LedgerState) (p q : PassState) : Type 0 where
  pub before : BoardState
  pub after : BoardState
  pub board : IsBoardOf l before
  pub known : GoesOn p before
  pub board_after : IsBoardOf l after
  pub known_after : GoesOn q after
  pub home : q.home ≡ p.home
  pub number : q.number ≡ p.number
  pub turns : q.turns ≡ p.turns + 1

-- the pass has the board's list as the turn left it, under a greater stamp
pub record IsShown (p q : PassState) (after : BoardState) : Type 0 where
  pub list : q.list ≡ after.entries
  pub stamp : p.stamp < q.stamp

-- the pass has the list and the stamp that it had
pub record KeepsList (p q : PassState) : Type 0 where
  pub list : q.list ≡ p.list
  pub stamp : q.stamp ≡ p.stamp

pub record HasLooked (l : LedgerState) (p q : PassState) : Type 0 where
  pub turn : Turn l p q
  pub event : Looks turn.before p.number (length q.list) turn.after
  pub shown : IsShown p q turn.after
  pub marks : q.marks ≡ p.marks

pub record HasPosted (l : LedgerState) (p : PassState) (e : CheckedEntry) (r : Posted) (q : PassState) : Type 0 where
  pub turn : Turn l p q
  pub event : Posts turn.before p.number e r turn.after
  pub shown : IsShown p q turn.after
  pub marks : q.marks ≡ marks_posted p.marks r

pub record HasFinished (l : LedgerState) (p : PassState) (j : ℕ) (o : Outcome) (r : Finished) (q : PassState)
    : Type 0 where
  pub turn : Turn l p q
  pub event : Finishes turn.before j o r turn.after
  pub kept : KeepsList p q
  pub marks : q.marks ≡ marks_finished p.marks j o r

pub record HasOpened (l : LedgerState) (p : PassState) (least : ℕ) (r : Option ℕ) (q : PassState) : Type 0 where
  pub turn : Turn l p q
  pub event : OpensNext turn.before least r turn.after
  pub kept : KeepsList p q
  pub marks : q.marks ≡ marks_opened p.marks least r

-- Where memory was refused the pass has what it had, and at most one turn more.
pub record IsRefused (p q : PassState) : Type 0 where
  pub home : q.home ≡ p.home
  pub number : q.number ≡ p.number
  pub kept : KeepsList p q
  pub marks : q.marks ≡ p.marks
  pub turns : (q.turns ≡ p.turns) ⊎ (q.turns ≡ p.turns + 1)

-- ---- passes that meet

-- the pass, with the list and the stamp of another
abbrev pub taking : PassState → PassState → PassState
taking p from = record p { list = from.list; stamp = from.stamp }

-- The pass takes the list and the stamp of another. The list that it had stands in front of that, and no entry of its
-- own comes to it.
pub record Takes (p q p' : PassState) : Type 0 where
  pub front : StartsWith p.list q.list
  pub own : found_by p.number q.list ≡ found_by p.number p.list
  pub after : p' ≡ taking p q

-- the same, of one that has seen no less
pub record HasTaken (p q p' : PassState) : Type 0 where
  pub takes : Takes p q p'
  pub same : p.stamp ≡ q.stamp → p.list ≡ q.list

-- Both have the list and the stamp of the one whose stamp is not less; that one stays as it was.
pub record HaveMet (p q p' q' : PassState) : Type 0 where
  pub one : p.stamp ≤ q.stamp → Takes p q p' × (q' ≡ q)
  pub other : q.stamp ≤ p.stamp → Takes q p q' × (p' ≡ p)

-- ---- the end

-- each worker's pass is among these
abbrev pub AreAll : LedgerState → List PassState → Type 0
AreAll l passes = (n : ℕ) → n < l.workers → Any (λ p. p.number ≡ n) passes

-- every pass is one of this lock
abbrev pub AreOf : LedgerState → List PassState → Type 0
AreOf l passes = All (λ p. p.home ≡ l.home) passes

-- property j was won by this pass, with the outcome that it handed in
abbrev pub WonBy : ℕ → Outcome → PassState → Type 0
WonBy j o p = HasWon j o p.marks

-- The board at the end: one of this ledger, which goes on from what each pass knows; of two passes the one with the
-- lesser stamp has the list that stands in front; and an outcome is there exactly where a pass won it, at most one.
pub record IsClosed (l : LedgerState) (passes : List PassState) (b : BoardState) : Type 0 where
  pub board : IsBoardOf l b
  pub known : All (λ p. GoesOn p b) passes
  pub stamps : (p q : PassState) → Contains passes p → Contains passes q → p.stamp ≤ q.stamp → StartsWith p.list q.list
  pub outcomes : (j : ℕ) (o : Outcome) → outcome_of b.served j ≡ Some o → Any (WonBy j o) passes
  pub winners : (j : ℕ) (o u : Outcome) (p q : PassState) → Contains passes p → Contains passes q
      → WonBy j o p → WonBy j u q → p.number ≡ q.number

-- ---- the beginning

-- A new ledger over such a board, with a pass for each worker, numbered from 0 on.
pub record IsBegun (c : Circuit) (js : List ℕ) (w more : ℕ) (es : List CheckedEntry) (l : LedgerState) (ps : List PassState)
    : Type 0 where
  pub first : l.home.first ≡ first_board c js w more es
  pub circuit : l.circuit ≡ c
  pub properties : l.properties ≡ js
  pub workers : l.workers ≡ w
  pub limit : l.limit ≡ min (length es + more) most_entries
  pub given : l.given ≡ es
  pub passes : ps ≡ new_passes l 0 w
