-- Scaffolding of inner functions. The sides of walls, as a map keeps them.
use Rattle.std.specs.Prelude.{ℕ, Option}
use Rattle.std.specs.Ordering.{nat_cmp}
use Rattle.std.specs.BTreeMap.{get}
use Rattle.cnf_unroll.specs.declared.sides.Sides.{Sides}
use Rattle.cnf_unroll.specs.declared.uses.Numbering.{Numbering as Counted}
use Rattle.cnf_unroll.specs.Uses.{Numbering}

-- the side number that is kept for an entry
abbrev pub side_in : Sides → ℕ → Option ℕ
side_in s entry = get nat_cmp s.known entry

-- what code counts on from use to use
abbrev pub counted : Counted → Numbering
counted n = record { free = n.free; sides = side_in n.sides }
