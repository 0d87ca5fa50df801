-- Fields of a certificate's lines, which single spaces separate. Numbers are decimal and below 2 ^ 63.
use Rattle.std.specs.Prelude.{ℕ, ◌-◌, ◌^◌, ◌<◌, List, [], ◌∷◌, Option, Some, None, option_map, option_and_then}
use Rattle.text_grammar.specs.Numerals.{number_at}

-- a number that a line may have
abbrev pub IsNumber : ℕ → Type 0
IsNumber n = n < 2 ^ 63

-- the number that is the whole field
abbrev pub whole : Option (ℕ × List ℕ) → Option ℕ
whole None = None
whole (Some (n, [])) = Some n
whole (Some (n, byte ∷ rest)) = None

abbrev pub number_in : List ℕ → Option ℕ
number_in field = whole (number_at (2 ^ 63 - 1) field)

-- what is read of the one field there is
abbrev pub only : {A : Type 0} → (List ℕ → Option A) → List (List ℕ) → Option A
only read [] = None
only read (field ∷ []) = read field
only read (field ∷ next ∷ more) = None

-- what the fields are read as, where each of them is read
abbrev pub read_each : {A : Type 0} → (List ℕ → Option A) → List (List ℕ) → Option (List A)
read_each read [] = Some []
read_each read (field ∷ more) =
    option_and_then (λ a. option_map (λ found. a ∷ found) (read_each read more)) (read field)
