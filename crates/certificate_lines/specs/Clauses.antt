-- A line of a clause: its literals as AIGER 1.9 (Biere, Heljanko, Wieringa, 2011) numbers them, and 0 behind them. The
-- last 0 ends the line, and a 0 before it is a literal.
use Rattle.std.specs.Prelude.{◌≡◌, ℕ, All, List, [], ◌∷◌, ◌++◌, map, Option, Some, None, option_map, option_and_then, if◌then◌else◌, ◌==◌, decimal}
use Rattle.std.specs.List.{join_with_byte}
use Rattle.text_grammar.specs.Pieces.{fields}
use Rattle.certificate_lines.specs.Fields.{IsNumber, number_in, read_each}

-- How a line is spelled.

abbrev pub clause_text : List ℕ → List ℕ
clause_text literals = join_with_byte 32 (map decimal (literals ++ 0 ∷ []))

-- the bytes spell the clause of these literals
pub record IsClauseLine (bytes literals : List ℕ) : Type 0 where
  pub each : All IsNumber literals
  pub spelled : bytes ≡ clause_text literals

abbrev pub SpellsNoClause : List ℕ → Type 0
SpellsNoClause bytes = (literals : List ℕ) → IsClauseLine bytes literals → ⊥

-- How a line is read.

-- the numbers in front of the last one, which is 0
abbrev pub before_zero : List ℕ → Option (List ℕ)
before_zero [] = None
before_zero (n ∷ []) = if n == 0 then Some [] else None
before_zero (n ∷ next ∷ more) = option_map (λ literals. n ∷ literals) (before_zero (next ∷ more))

-- The literals of the clause that the bytes spell, if they spell one.
unfoldable pub clause_of : List ℕ → Option (List ℕ)
clause_of bytes = option_and_then before_zero (read_each number_in (fields bytes))
