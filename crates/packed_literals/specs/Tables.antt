-- What is told of variables, in a list for small variables and in a map for others.
use Rattle.std.specs.Prelude.{ℕ, ◌^◌, List, Option, None, nat_lt, if◌then◌else◌, slice_get}
use Rattle.std.specs.Option.{unwrap_or}
use Rattle.std.specs.Ordering.{nat_cmp}
use Rattle.std.specs.BTreeMap as tree
use Rattle.packed_literals.specs.declared.table.Table.{Table}

-- what stands at a place; nothing past the end
abbrev pub near_of : {T : Type 0} → List (Option T) → ℕ → Option T
near_of near n = unwrap_or (slice_get near n) None

-- what is told of a variable
abbrev pub told : {T : Type 0} → Table T → ℕ → Option T
told t var = if nat_lt var (2 ^ 20) then near_of t.near.items var else tree.get nat_cmp t.far var
