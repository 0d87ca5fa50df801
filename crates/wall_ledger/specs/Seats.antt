-- Seats that are split and joined (scaffolding).
use Rattle.std.specs.Prelude.{◌≡◌, ℕ, ◌-◌, List, [], ◌∷◌, map, length, Some, None, IfSome}
use Rattle.std.specs.List.{All}
use Rattle.entry.specs.declared.origins.Origin.TheVariants.{Given}
use Rattle.wall_store.specs.Boards.{BoardState, IsBoard, outcome_of, found_by}
use Rattle.wall_ledger.specs.Passes.{PassState, StartsWith}
use Rattle.wall_ledger.specs.Rules.{Face, fresh_from, blank_marks}

abbrev pub tail_of : List Face → List Face
tail_of [] = []
tail_of (f ∷ fs) = fs

abbrev pub head_of : List Face → List Face
head_of [] = []
head_of (f ∷ fs) = f ∷ []

-- a note has the list and the stamp of a pass, and no number
abbrev pub note_of : List Face → List Face
note_of [] = []
note_of (f ∷ fs) =
    record { first = f.first; number = None; list = f.list; stamp = f.stamp; turns = 0; marks = [] } ∷ []

-- a pass with the list and the stamp of the note beside it
abbrev pub met : List Face → List Face
met [] = []
met (f ∷ []) = f ∷ []
met (f ∷ g ∷ fs) = record f { list = g.list; stamp = g.stamp } ∷ []

-- what the pass of the first face comes to know of the list of the second, whose stamp is not less
pub record IsBefore (f g : Face) : Type 0 where
  pub front : StartsWith f.list g.list
  pub same : f.stamp ≡ g.stamp → f.list ≡ g.list
  pub own : IfSome f.number (λ k. found_by k g.list ≡ found_by k f.list)

abbrev pub FrontsMeet : List Face → Type 0
FrontsMeet [] = Unit {0}
FrontsMeet (f ∷ []) = Unit {0}
FrontsMeet (f ∷ g ∷ fs) = IsBefore f g

abbrev pub AreMeeting : List Face → List Face → Type 0
AreMeeting v w = (w ≡ met v) × FrontsMeet v

-- the passes of a new ledger that have no seat of their own yet: those from number k on
abbrev pub unseated : BoardState → ℕ → List Face
unseated first k = fresh_from first (blank_marks first) k (first.workers - k)

-- A board with which a ledger begins: no property has an outcome, and its entries are those that were given, none of
-- them a worker's.
pub record IsStart (b : BoardState) : Type 0 where
  pub board : IsBoard b
  pub outcomes : (j : ℕ) → outcome_of b.served j ≡ None
  pub count : b.given ≡ length b.entries
  pub origins : All (λ e. e.origin ≡ Given) b.entries

-- the face of a pass
abbrev pub face_of : PassState → Face
face_of p = record {
  first = p.home.first;
  number = Some p.number;
  list = p.list;
  stamp = p.stamp;
  turns = p.turns;
  marks = p.marks;
}

abbrev pub faces_of : List PassState → List Face
faces_of ps = map face_of ps
