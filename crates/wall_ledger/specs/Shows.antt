-- Marks as memory has them (scaffolding).
use Rattle.std.specs.Prelude.{ℕ, ◌==◌, Bool, true, false, List, [], ◌∷◌, map, Option, Some, None, if◌then◌else◌}
use Rattle.wall_store.specs.declared.outcomes.Posted.{Posted}
use Rattle.wall_store.specs.declared.outcomes.Posted.TheVariants as posts
use Rattle.wall_store.specs.declared.outcomes.Finished.{Finished}
use Rattle.wall_store.specs.declared.outcomes.Finished.TheVariants as ends
use Rattle.wall_ledger.specs.declared.marks.Shown.{Shown}
use Rattle.wall_ledger.specs.declared.marks.Shown.TheVariants as shows
use Rattle.wall_ledger.specs.declared.marks.PassMark.{PassMark}
use Rattle.wall_ledger.specs.declared.marks.Closing.{Closing}
use Rattle.wall_ledger.specs.declared.marks.Closing.TheVariants as closings
use Rattle.wall_ledger.specs.Passes.{Marked, shown_by}
use Rattle.wall_ledger.specs.Turns.{is_passed}

abbrev pub mark_shown : Marked → PassMark
mark_shown m = record { property = m.property; shown = shown_by m.mark }

abbrev pub covered : Closing → ℕ → Bool
covered closings.All i = true
covered (closings.One j) i = i == j
covered (closings.Passed least j) i = is_passed least j i

abbrev pub shut_shown : Shown → Shown
shut_shown shows.Blank = shows.Closed
shut_shown shows.Won = shows.Won
shut_shown shows.Closed = shows.Closed

abbrev pub shut_one : Bool → PassMark → PassMark
shut_one b m = if b then record { property = m.property; shown = shut_shown m.shown } else m

abbrev pub closing_shown : (ℕ → Bool) → List PassMark → List PassMark
closing_shown test marks = map (λ m. shut_one (test m.property) m) marks

abbrev pub crown_one : ℕ → PassMark → PassMark
crown_one j m = if m.property == j then record { property = m.property; shown = shows.Won } else m

abbrev pub winning_shown : ℕ → List PassMark → List PassMark
winning_shown j marks = map (crown_one j) marks

abbrev pub shown_at : List PassMark → ℕ → Shown
shown_at [] j = shows.Blank
shown_at (m ∷ marks) j = if m.property == j then m.shown else shown_at marks j

-- ---- after an event

abbrev pub shown_posted : List PassMark → Posted → List PassMark
shown_posted marks posts.Closed = closing_shown (covered closings.All) marks
shown_posted marks posts.Full = marks
shown_posted marks (posts.Stale n) = marks
shown_posted marks (posts.Appended n) = marks

abbrev pub shown_finished : List PassMark → ℕ → Finished → List PassMark
shown_finished marks j ends.Won = winning_shown j marks
shown_finished marks j ends.Closed = closing_shown (covered (closings.One j)) marks

abbrev pub closing_of : ℕ → Option ℕ → Closing
closing_of least None = closings.All
closing_of least (Some j) = closings.Passed least j

abbrev pub shown_opened : List PassMark → ℕ → Option ℕ → List PassMark
shown_opened marks least r = closing_shown (covered (closing_of least r)) marks

-- nothing is shown of a property
abbrev pub blank_shown : ℕ → PassMark
blank_shown j = record { property = j; shown = shows.Blank }

-- the entry was appended
abbrev pub was_appended : Posted → Bool
was_appended posts.Closed = false
was_appended posts.Full = false
was_appended (posts.Stale n) = false
was_appended (posts.Appended n) = true
