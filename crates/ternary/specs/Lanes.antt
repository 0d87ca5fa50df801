-- Sixty-four ternary values in two words, as a simulation of many states at once keeps them.
use Rattle.std.specs.Prelude.{ℕ, zero, suc, List, map, slice_index_or}
use Rattle.std.specs.Int.{bit_at}
use Rattle.ternary.specs.declared.values.Value3.{Value3}
use Rattle.ternary.specs.declared.values.Value3.TheVariants.{Zero, One, X}
use Rattle.ternary.specs.declared.lanes.Lanes.{Lanes}

-- The value that two bits stand for: 0 where the second is 0, else 1 where the first is 1, else X.
abbrev pub of_bits : ℕ → ℕ → Value3
of_bits one zero = Zero
of_bits zero (suc possible) = X
of_bits (suc one) (suc possible) = One

-- the value of bit k of two words
abbrev pub value_at : List ℕ → ℕ → Value3
value_at words k = of_bits (bit_at (slice_index_or words 0 0) k) (bit_at (slice_index_or words 1 0) k)

-- lane k
abbrev pub lane_of : Lanes → ℕ → Value3
lane_of lanes k = value_at lanes.planes k

-- lane k of each element
abbrev pub in_lane : ℕ → List Lanes → List Value3
in_lane k list = map (λ lanes. lane_of lanes k) list
