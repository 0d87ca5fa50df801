-- Draws: a linear congruential generator modulo 2 ^ 64, with the constants of Knuth's MMIX. A draw is the upper 31 bits of
-- the state behind it.
use Rattle.std.specs.Prelude.{ℕ, zero, suc, ◌+◌, ◌*◌, ◌/◌, ◌%◌, ◌^◌, List, map}
use Rattle.std.specs.List.{range_with_len}

-- the state after one more draw
unfoldable pub next_state : ℕ → ℕ
next_state x = (6364136223846793005 * x + 1442695040888963407) % 2 ^ 64

-- the state after so many draws
unfoldable pub state_after : ℕ → ℕ → ℕ
state_after state zero = state
state_after state (suc k) = next_state (state_after state k)

-- draw number k from a state on, counted from 0
unfoldable pub draw : ℕ → ℕ → ℕ
draw state k = state_after state (suc k) / 2 ^ 33

-- the first draws from a seed
abbrev pub draws : ℕ → ℕ → List ℕ
draws seed count = map (draw seed) (range_with_len 0 count)
