-- What passes and the board keep under the lock (scaffolding).
use Rattle.std.specs.Prelude.{◌≡◌, ◌≢◌, ℕ, zero, suc, ◌+◌, ◌-◌, ◌<◌, ◌≤◌, ◌⊎◌, List, [], ◌∷◌, ◌++◌, map, length, take, Option, Some, None, IfSome}
use Rattle.std.specs.List.{AllByRecursion}
use mathlib.Core.Option.{some}
use lib.ListN.{get_elem?}
use Rattle.entry.specs.CheckedEntries.{CheckedEntry}
use Rattle.wall_store.specs.declared.outcomes.Outcome.{Outcome}
use Rattle.wall_store.specs.Boards.{BoardState, properties_of, outcome_of, found_by}
use Rattle.wall_store.specs.Events.{seen_by}
use Rattle.wall_ledger.specs.Passes.{blank, Marked, StartsWith, AreMarksOf}
use Rattle.wall_ledger.specs.Turns.{HasWon}

-- What the lock knows of a pass, or of a note, which has a list and a stamp and no number.
pub record Face : Type 0 where
  pub first : BoardState
  pub number : Option ℕ
  pub list : List CheckedEntry
  pub stamp : ℕ
  pub turns : ℕ
  pub marks : List Marked

-- the board began with this one
pub record IsFrom (first b : BoardState) : Type 0 where
  pub circuit : b.circuit ≡ first.circuit
  pub properties : properties_of b.served ≡ properties_of first.served
  pub workers : b.workers ≡ first.workers
  pub limit : b.limit ≡ first.limit
  pub given : b.given ≡ length first.entries
  pub front : StartsWith first.entries b.entries

-- what a pass with the number k knows of the board
pub record IsOwned (b : BoardState) (f : Face) (k : ℕ) : Type 0 where
  pub below : k < b.workers
  pub seen : seen_by b k ≤ length f.list
  pub own : found_by k b.entries ≡ found_by k f.list
  pub marks : AreMarksOf f.marks b.served

-- Who sits where: which seat has the pass of a number, how long the list of a stamp is, and the number of the pass that
-- won a property.
pub record Chart : Type 0 where
  pub owner : ℕ → ℕ
  pub reach : ℕ → ℕ
  pub champion : ℕ → ℕ

pub record IsSeated (c : Chart) (seat : ℕ) (f : Face) (k : ℕ) : Type 0 where
  pub at : c.owner k ≡ seat
  pub champions : (j : ℕ) (o : Outcome) → HasWon j o f.marks → c.champion j ≡ k

-- a pass or a note at a seat, when n turns were taken
pub record Fits (first b : BoardState) (n : ℕ) (c : Chart) (seat : ℕ) (f : Face) : Type 0 where
  pub home : f.first ≡ first
  pub list : f.list ≡ take (c.reach f.stamp) b.entries
  pub stamp : f.stamp ≤ n
  pub owned : IfSome f.number (λ k. IsOwned b f k × IsSeated c seat f k)

-- one of these has this number
abbrev pub AmongThem : (Face → Type 0) → List Face → Type 0
AmongThem P [] = ⊥
AmongThem P (f ∷ fs) = P f ⊎ AmongThem P fs

abbrev pub HasNumber : ℕ → List Face → Type 0
HasNumber k fs = AmongThem (λ f. f.number ≡ Some k) fs

-- a seat with a pass may take turns
abbrev pub IsNumbered : List Face → Type 0
IsNumbered fs = (k : ℕ) × HasNumber k fs

pub record Kept (first : BoardState) (n : ℕ) (b : BoardState) (views : List (List Face)) : Type 0 where
  pub chart : Chart
  pub origin : IsFrom first b
  pub rising : (i j : ℕ) → i ≤ j → chart.reach i ≤ chart.reach j
  pub within : (i : ℕ) → chart.reach i ≤ length b.entries
  pub seats : (i : ℕ) (fs : List Face) → get_elem? views i ≡ some fs → AllByRecursion (Fits first b n chart i) fs
  pub winners : (j : ℕ) (o : Outcome) → outcome_of b.served j ≡ Some o
      → (chart.champion j < b.workers)
      × ((fs : List Face) × (get_elem? views (chart.owner (chart.champion j)) ≡ some fs) × AmongThem (λ f. HasWon j o f.marks) fs)

-- how many entries were added to those that were given
abbrev pub added : BoardState → ℕ
added b = length b.entries - b.given

-- what a pass or a note finds, whose turn it is, of the board
pub record IsTold (n : ℕ) (b : BoardState) (f : Face) : Type 0 where
  pub origin : IsFrom f.first b
  pub list : StartsWith f.list b.entries
  pub stamp : f.stamp ≤ n
  pub owned : IfSome f.number (IsOwned b f)

abbrev pub Told : ℕ → List Face → BoardState → Type 0
Told n fs b = AllByRecursion (IsTold n b) fs

-- the passes with which a ledger begins, numbered from k on
abbrev pub fresh : BoardState → List Marked → ℕ → Face
fresh first marks k =
    record { first = first; number = Some k; list = first.entries; stamp = 0; turns = 0; marks = marks }

abbrev pub fresh_from : BoardState → List Marked → ℕ → ℕ → List Face
fresh_from first marks k zero = []
fresh_from first marks k (suc more) = fresh first marks k ∷ fresh_from first marks (k + 1) more

-- no marks yet
abbrev pub blank_marks : BoardState → List Marked
blank_marks first = map (λ j. record { property = j; mark = blank }) (properties_of first.served)

abbrev pub first_faces : BoardState → List Face
first_faces first = fresh_from first (blank_marks first) 0 first.workers

-- In turn n the pass k takes the board from x to y, and is g where it was f.
pub record Event (n : ℕ) (x y : BoardState) (k : ℕ) (f g : Face) : Type 0 where
  pub was : f.number ≡ Some k
  pub number : g.number ≡ Some k
  pub home : g.first ≡ f.first
  pub circuit : y.circuit ≡ x.circuit
  pub properties : properties_of y.served ≡ properties_of x.served
  pub workers : y.workers ≡ x.workers
  pub limit : y.limit ≡ x.limit
  pub given : y.given ≡ x.given
  pub more : List CheckedEntry
  pub longer : y.entries ≡ x.entries ++ more
  pub others_seen : (w : ℕ) → w ≢ k → seen_by y w ≡ seen_by x w
  pub others_found : (w : ℕ) → w ≢ k → found_by w y.entries ≡ found_by w x.entries
  pub stay : (j : ℕ) (o : Outcome) → outcome_of x.served j ≡ Some o → outcome_of y.served j ≡ Some o
  pub shown : ((g.list ≡ y.entries) × (g.stamp ≡ suc n)) ⊎ ((g.list ≡ f.list) × (g.stamp ≡ f.stamp))
  pub seen : seen_by y k ≤ length g.list
  pub own : found_by k y.entries ≡ found_by k g.list
  pub marks : AreMarksOf g.marks y.served
  pub old_wins : (j : ℕ) (o : Outcome) → HasWon j o f.marks → HasWon j o g.marks
  pub new_wins : (j : ℕ) (o : Outcome) → HasWon j o g.marks → HasWon j o f.marks ⊎ (outcome_of x.served j ≡ None)
  pub outcomes : (j : ℕ) (o : Outcome) → outcome_of y.served j ≡ Some o → (outcome_of x.served j ≡ Some o) ⊎ HasWon j o g.marks

-- ---- what a pass is after a turn

-- it was shown the board's list in turn n
abbrev pub shown_face : Face → BoardState → ℕ → List Marked → Face
shown_face f y n marks =
    record { first = f.first; number = f.number; list = y.entries; stamp = suc n; turns = f.turns + 1; marks = marks }

-- it keeps its list
abbrev pub kept_face : Face → List Marked → Face
kept_face f marks =
    record { first = f.first; number = f.number; list = f.list; stamp = f.stamp; turns = f.turns + 1; marks = marks }
