-- A line of uses: the numbers of earlier entries, and in version 2 a + behind a number whose inside is named, a - behind
-- one whose outside is. The empty line has no use. The format is this program's own.
use Rattle.std.specs.Prelude.{◌≡◌, ⊤, ℕ, ◌-◌, ◌^◌, All, List, [], ◌∷◌, ◌++◌, map, Option, Some, None, option_map, if◌then◌else◌, ◌==◌, decimal, codes}
use Rattle.std.specs.List.{join_with_byte}
use Rattle.text_grammar.specs.Numerals.{number_at}
use Rattle.text_grammar.specs.Pieces.{fields}
use Rattle.fair_semantics.specs.declared.entries.Side.{Side}
use Rattle.fair_semantics.specs.declared.entries.Side.TheVariants.{Any, In, Out}
use Rattle.fair_semantics.specs.declared.entries.Use.{Use}
use Rattle.certificate_lines.specs.declared.uses.WrittenUse.{WrittenUse}
use Rattle.certificate_lines.specs.declared.words.Version.{Version}
use Rattle.certificate_lines.specs.declared.words.Version.TheVariants.{One, Two}
use Rattle.certificate_lines.specs.Fields.{IsNumber, read_each}

-- How a line is spelled.

abbrev pub sign_text : Side → List ℕ
sign_text Any = []
sign_text In = codes "+"
sign_text Out = codes "-"

abbrev pub use_text : WrittenUse → List ℕ
use_text u = decimal u.number ++ sign_text u.side

abbrev pub uses_text : List WrittenUse → List ℕ
uses_text uses = join_with_byte 32 (map use_text uses)

-- version 1 has no signs
abbrev pub HasSide : Version → Side → Type 0
HasSide One side = side ≡ Any
HasSide Two side = ⊤

abbrev pub MayStand : Version → WrittenUse → Type 0
MayStand version u = IsNumber u.number × HasSide version u.side

-- the bytes spell these uses in a certificate of this version
pub record AreUses (version : Version) (bytes : List ℕ) (uses : List WrittenUse) : Type 0 where
  pub each : All (MayStand version) uses
  pub spelled : bytes ≡ uses_text uses

abbrev pub SpellsNoUses : Version → List ℕ → Type 0
SpellsNoUses version bytes = (uses : List WrittenUse) → AreUses version bytes uses → ⊥

-- a use as it is written
abbrev pub written : Use → WrittenUse
written u = record { number = u.entry; side = u.side }

-- How a line is read.

abbrev pub sign_in : ℕ → Option Side
sign_in byte = if byte == 43 then Some In else if byte == 45 then Some Out else None

-- the side that what follows a number names
abbrev pub side_in : Version → List ℕ → Option Side
side_in version [] = Some Any
side_in One (byte ∷ rest) = None
side_in Two (byte ∷ []) = sign_in byte
side_in Two (byte ∷ next ∷ rest) = None

abbrev pub signed : Version → Option (ℕ × List ℕ) → Option WrittenUse
signed version None = None
signed version (Some (n, rest)) = option_map (λ side. record { number = n; side = side }) (side_in version rest)

abbrev pub use_in : Version → List ℕ → Option WrittenUse
use_in version field = signed version (number_at (2 ^ 63 - 1) field)

-- The uses that the bytes spell in a certificate of this version, if they spell uses.
unfoldable pub uses_of : Version → List ℕ → Option (List WrittenUse)
uses_of version [] = Some []
uses_of version (byte ∷ bytes) = read_each (use_in version) (fields (byte ∷ bytes))
