-- What is told of numbers, in a list by the numbers.
use Rattle.std.specs.Prelude.{ℕ, ◌<◌, List, Option, None, length, slice_get}
use Rattle.std.specs.Option.{unwrap_or}
use Rattle.packed_literals.specs.declared.dense.Dense.{Dense}

-- what stands at a place; nothing past the end
abbrev pub thing_at : {T : Type 0} → List (Option T) → ℕ → Option T
thing_at things n = unwrap_or (slice_get things n) None

-- what is told of a number
abbrev pub told : {T : Type 0} → Dense T → ℕ → Option T
told t n = thing_at t.things.items n

-- there is room for what is told of a number
abbrev pub HasRoom : {T : Type 0} → Dense T → ℕ → Type 0
HasRoom t n = n < length t.things.items
