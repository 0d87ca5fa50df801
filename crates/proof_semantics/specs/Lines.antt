-- The text of a proof line: an addition is an id, literals, 0, hints, 0; a deletion is an id, d, ids, 0. Numbers are
-- decimal and below 2 ^ 63 in size, and single spaces separate them.
use Rattle.std.specs.Prelude.{◌≡◌, ℕ, ◌-◌, ◌^◌, ◌<◌, ◌↔◌, Bool, true, false, All, List, [], ◌∷◌, ◌++◌, map, Option, Some, None, if◌then◌else◌, ◌==◌, decimal}
use Rattle.std.specs.List.{list_all, join_with_byte}
use Rattle.std.specs.Option.{option_map}
use Rattle.text_grammar.specs.Numerals.{number_at}
use Rattle.text_grammar.specs.Pieces.{fields}
use Rattle.proof_semantics.specs.Clauses.{has_literal}
use Rattle.proof_semantics.specs.declared.literals.Lit.{Lit}

-- Ids of a deletion are above 0. Hints are signed ids, in the form of literals: 7 or -7.
pub data Line : Type 0 where
  addition : (id : ℕ) (clause : List Lit) (hints : List Lit) → Line
  deletion : (id : ℕ) (ids : List ℕ) → Line

-- How a line is spelled.

abbrev pub signed_text : Lit → List ℕ
signed_text a = if a.positive then decimal a.var else 45 ∷ decimal a.var

abbrev pub fields_of : Line → List (List ℕ)
fields_of (addition id clause hints) =
    decimal id ∷ (map signed_text clause ++ (48 ∷ []) ∷ (map signed_text hints ++ (48 ∷ []) ∷ []))
fields_of (deletion id ids) = decimal id ∷ (100 ∷ []) ∷ (map decimal ids ++ (48 ∷ []) ∷ [])

abbrev pub text_of : Line → List ℕ
text_of line = join_with_byte 32 (fields_of line)

-- the numbers that may stand in a line, but for their signs
abbrev pub IsSize : ℕ → Type 0
IsSize n = (0 < n) × (n < 2 ^ 63)

-- each literal's variable is one of them
abbrev pub AreSized : List Lit → Type 0
AreSized lits = (a : Lit) → has_literal lits a ≡ true → IsSize a.var

abbrev pub HasSizes : Line → Type 0
HasSizes (addition id clause hints) = IsSize id × All (λ a. IsSize a.var) clause × All (λ a. IsSize a.var) hints
HasSizes (deletion id ids) = IsSize id × All IsSize ids

-- How a line is read.

infixl 10 ◌>>=◌
abbrev pub ◌>>=◌ : {A B : Type 0} → Option A → (A → Option B) → Option B
None >>= f = None
(Some x) >>= f = f x

-- the number that is the whole field, from 1 on
abbrev pub whole_number : Option (ℕ × List ℕ) → Option ℕ
whole_number None = None
whole_number (Some (n, byte ∷ rest)) = None
whole_number (Some (n, [])) = if n == 0 then None else Some n

abbrev pub size_in : List ℕ → Option ℕ
size_in field = whole_number (number_at (2 ^ 63 - 1) field)

abbrev pub signed_in : List ℕ → Option Lit
signed_in [] = None
signed_in (byte ∷ rest) =
    if byte == 45 then option_map (λ n. record { var = n; positive = false }) (size_in rest)
    else option_map (λ n. record { var = n; positive = true }) (size_in (byte ∷ rest))

-- the field is this one byte
abbrev pub is_byte : ℕ → List ℕ → Bool
is_byte byte [] = false
is_byte byte (b ∷ []) = b == byte
is_byte byte (b ∷ c ∷ rest) = false

-- the signed numbers in front of the first field 0, and the fields behind it
abbrev pub signed_to_zero : List (List ℕ) → Option (List Lit × List (List ℕ))
signed_to_zero [] = None
signed_to_zero (field ∷ more) =
    if is_byte 48 field then Some ([], more)
    else signed_in field >>= λ a. signed_to_zero more >>= λ found. Some (a ∷ found.0, found.1)

abbrev pub at_end : Line → List (List ℕ) → Option Line
at_end line [] = Some line
at_end line (field ∷ more) = None

abbrev pub addition_of : ℕ → List (List ℕ) → Option Line
addition_of id more =
    signed_to_zero more >>= λ clause. signed_to_zero clause.1 >>= λ hints. at_end (addition id clause.0 hints.0) hints.1

abbrev pub deletion_of : ℕ → List (List ℕ) → Option Line
deletion_of id more =
    signed_to_zero more >>= λ ids.
    if list_all (λ a. a.positive) ids.0 then at_end (deletion id (map (λ a. a.var) ids.0)) ids.1 else None

-- what follows the id
abbrev pub line_behind : ℕ → List (List ℕ) → Option Line
line_behind id [] = None
line_behind id (field ∷ more) = if is_byte 100 field then deletion_of id more else addition_of id (field ∷ more)

abbrev pub line_in : List (List ℕ) → Option Line
line_in [] = None
line_in (field ∷ more) = size_in field >>= λ id. line_behind id more

-- The line that the bytes spell, if they spell one.
unfoldable pub line_of : List ℕ → Option Line
line_of bytes = line_in (fields bytes)

-- What is read is the line that the bytes spell.
abbrev pub ReadsSpelled : Type 0
ReadsSpelled = (bytes : List ℕ) (line : Line) → (line_of bytes ≡ Some line) ↔ (HasSizes line × (bytes ≡ text_of line))
