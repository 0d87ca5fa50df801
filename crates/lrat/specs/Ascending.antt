-- Scaffolding of inner functions. Ids that ascend.
use Rattle.std.specs.Prelude.{ℕ, ◌<◌, List, length, slice_index}

-- each id is above those before it
abbrev pub Ascend : List ℕ → Type 0
Ascend ids = (i j : ℕ) → i < j → j < length ids → slice_index ids i < slice_index ids j
