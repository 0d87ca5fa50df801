-- Scaffolding of the tests. Properties that are served, put together in ascending order.
use Rattle.std.specs.Prelude.{ℕ, ◌<◌, ◌≤◌, List, length}
use Rattle.std.specs.List.{All, AllPairs}

-- they ascend, and are below this number
pub record AreFirst (n : ℕ) (properties : List ℕ) : Type 0 where
  pub ascend : AllPairs (λ i j. i < j) properties
  pub below : All (λ i. i < n) properties
  pub few : length properties ≤ n
