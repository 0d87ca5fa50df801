use Rattle.std.proofs.Common.{ℕ, ◌-◌, ◌<◌, ◌≤◌, length, get_or}
use Rattle.lrat.specs.ArenaOf.{ids_at}
use Rattle.lrat.proofs.arena.search.Given as goal

-- the ids below are less, and those from the other end on are greater
abbrev pub invariant-loop-low : goal.invariant-loop-low
invariant-loop-low l =
    (l.high ≤ length l.places) × ((k : ℕ) → k < l.low → get_or (ids_at l.places) k 0 < l.id)
    × ((k : ℕ) → l.high ≤ k → k < length l.places → l.id < get_or (ids_at l.places) k 0)

abbrev pub decreases-loop-low : goal.decreases-loop-low
decreases-loop-low l = l.high - l.low
