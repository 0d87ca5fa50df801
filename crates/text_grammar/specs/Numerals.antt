-- Numbers in decimal, as AIGER 1.9 (Biere, Heljanko, Wieringa, 2011) and LRAT (Cruz-Filipe, Heule, Hunt, Kaufmann,
-- Schneider-Kamp, 2017) write them: without a leading zero.
use Rattle.std.specs.Prelude.{◌≡◌, ℕ, ◌≤◌, Bool, true, false, not, ◌&&◌, List, [], ◌∷◌, ◌++◌, length, drop, Option, Some, None, decimal, if◌then◌else◌, nat_le, ◌==◌, take_while}
use Rattle.std.specs.Char.{is_ascii_digit}
use Rattle.std.specs.Str.Parse.{digits_value}

-- the byte is one of 0 to 9
abbrev pub is_digit : ℕ → Bool
is_digit byte = is_ascii_digit byte

-- the first byte is a digit
abbrev pub begins_with_digit : List ℕ → Bool
begins_with_digit [] = false
begins_with_digit (byte ∷ bytes) = is_digit byte

-- The number n, at most limit, stands at the front of bytes in decimal, with all of its digits, and rest follows.
pub record IsNumeral (limit n : ℕ) (bytes rest : List ℕ) : Type 0 where
  pub small : n ≤ limit
  pub spelled : bytes ≡ decimal n ++ rest
  pub whole : begins_with_digit rest ≡ false

-- The number stands there, the byte stop is behind it, and rest follows that.
abbrev pub IsField : ℕ → ℕ → ℕ → List ℕ → List ℕ → Type 0
IsField limit n stop bytes rest = IsNumeral limit n bytes (stop ∷ rest)

-- there is a digit, and no 0 stands in front of another one
abbrev pub is_plain : List ℕ → Bool
is_plain [] = false
is_plain (digit ∷ []) = true
is_plain (digit ∷ next ∷ digits) = not (digit == 48)

-- The number at the front of bytes and what follows its digits, or None where no number of at most limit stands there.
unfoldable pub number_at : ℕ → List ℕ → Option (ℕ × List ℕ)
number_at limit bytes =
    let digits = take_while is_digit bytes in
    let n = digits_value 10 digits in
    if is_plain digits && nat_le n limit then Some (n, drop (length digits) bytes) else None
