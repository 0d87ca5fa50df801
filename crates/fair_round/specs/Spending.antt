-- What a round spends: conflicts and steps, counted by the meter of its worker.
use Rattle.std.specs.Prelude.{ℕ, ◌+◌, ◌*◌, ◌^◌}
use Rattle.edge.specs.Units.{Spendings}
use Rattle.edge.specs.Ends.{IsSpent}
use Rattle.ic3_semantics.specs.Searching.{CountsUpTo}
use Rattle.fair_round.specs.declared.stopping.Stop.{Stop}
use Rattle.fair_round.specs.declared.stopping.Stop.TheVariants as stops

-- Spent comes where a count equals its limit.
abbrev pub IsStop : Spendings → Stop → Type 0
IsStop meter stops.Spent = IsSpent meter
IsStop meter stops.Memory = Unit {0}

-- how many steps one search for a path takes at most, over n latches
unfoldable pub path_steps : ℕ → ℕ
path_steps n = (2 ^ n + 2) * (2 ^ n + 2)

-- at most the steps of so many searches for a path over n latches were counted
abbrev pub Asks : ℕ → ℕ → Spendings → Spendings → Type 0
Asks n searches old new = CountsUpTo (searches * path_steps n) old new
