-- The values of variables, in a list of bytes by their numbers.
use Rattle.std.specs.Prelude.{ℕ, ◌<◌, Bool, true, false, List, length, Option, None, Some, slice_get}
use Rattle.proof_semantics.specs.Clauses.{bool_eq}
use Rattle.packed_literals.specs.declared.values.Byte.{Byte}
use Rattle.packed_literals.specs.declared.values.Byte.TheVariants.{Nothing, False, True}
use Rattle.packed_literals.specs.declared.values.Values.{Values}

-- there is a value, and it is this one
abbrev pub is_value : Option Bool → Bool → Bool
is_value None b = false
is_value (Some value) b = bool_eq value b

-- the value that a byte stands for; none past the end
abbrev pub value_in : Option Byte → Option Bool
value_in None = None
value_in (Some Nothing) = None
value_in (Some False) = Some false
value_in (Some True) = Some true

-- the value that stands at a place
abbrev pub value_at : List Byte → ℕ → Option Bool
value_at bytes n = value_in (slice_get bytes n)

-- the value of the variable with a number
abbrev pub value_told : Values → ℕ → Option Bool
value_told t n = value_at t.bytes.items n

-- there is room for the value of the variable with a number
abbrev pub HasValueRoom : Values → ℕ → Type 0
HasValueRoom t n = n < length t.bytes.items
