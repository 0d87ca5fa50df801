-- Scaffolding of inner functions. What names keep.
use Rattle.std.specs.Prelude.{◌≡◌, ℕ, ◌≤◌, ◌^◌, length}
use Rattle.packed_literals.specs.Naming.{place_among, AreApart}
use Rattle.packed_literals.specs.Tables.{told}
use Rattle.packed_literals.specs.declared.names.Names.TheInside.{Inside}

-- Each variable's number is told right, no variable comes twice, and two literals of each have a code below 2^32.
pub record IsInterned (t : Inside) : Type 0 where
  pub numbers : (var : ℕ) → told t.numbers var ≡ place_among t.names.items var
  pub apart : AreApart t.names.items
  pub few : length t.names.items ≤ 2 ^ 31
