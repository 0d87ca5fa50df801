-- The lines of a certificate that begin with a word: version 1, reach 2 1, wall 2 1, proof 3, refute 1 3 and end. The
-- format is this program's own.
use Rattle.std.specs.Prelude.{◌≡◌, ⊤, ℕ, List, [], ◌∷◌, Option, Some, None, option_map, option_and_then, if◌then◌else◌, decimal, codes}
use Rattle.std.specs.List.{join_with_byte}
use Rattle.std.specs.Str.{bytes_eq}
use Rattle.text_grammar.specs.Pieces.{fields}
use Rattle.fair_semantics.specs.declared.entries.Kind.{Kind}
use Rattle.fair_semantics.specs.declared.entries.Kind.TheVariants.{Reach, Wall}
use Rattle.certificate_lines.specs.declared.words.Version.{Version}
use Rattle.certificate_lines.specs.declared.words.Version.TheVariants.{One, Two}
use Rattle.certificate_lines.specs.declared.words.WordLine.{WordLine}
use Rattle.certificate_lines.specs.declared.words.WordLine.TheVariants as lines
use Rattle.certificate_lines.specs.declared.words.Word.{Word}
use Rattle.certificate_lines.specs.declared.words.Word.TheVariants as words
use Rattle.certificate_lines.specs.Fields.{IsNumber, number_in, only}

-- How a line is spelled.

abbrev pub kind_text : Kind → List ℕ
kind_text Reach = codes "reach"
kind_text Wall = codes "wall"

abbrev pub version_text : Version → List ℕ
version_text One = codes "1"
version_text Two = codes "2"

abbrev pub fields_of : WordLine → List (List ℕ)
fields_of (lines.Version version) = codes "version" ∷ version_text version ∷ []
fields_of (lines.Opening o) = kind_text o.kind ∷ decimal o.clauses ∷ decimal o.uses ∷ []
fields_of (lines.Proof count) = codes "proof" ∷ decimal count ∷ []
fields_of (lines.Refutation r) = codes "refute" ∷ decimal r.uses ∷ decimal r.proof_lines ∷ []
fields_of lines.End = codes "end" ∷ []

abbrev pub word_line_text : WordLine → List ℕ
word_line_text line = join_with_byte 32 (fields_of line)

abbrev pub HasNumbers : WordLine → Type 0
HasNumbers (lines.Version version) = ⊤
HasNumbers (lines.Opening o) = IsNumber o.clauses × IsNumber o.uses
HasNumbers (lines.Proof count) = IsNumber count
HasNumbers (lines.Refutation r) = IsNumber r.uses × IsNumber r.proof_lines
HasNumbers lines.End = ⊤

-- the bytes spell this line
pub record IsWordLine (bytes : List ℕ) (line : WordLine) : Type 0 where
  pub numbers : HasNumbers line
  pub spelled : bytes ≡ word_line_text line

abbrev pub SpellsNoWordLine : List ℕ → Type 0
SpellsNoWordLine bytes = (line : WordLine) → IsWordLine bytes line → ⊥

-- How a line is read.

abbrev pub word_in : List ℕ → Option Word
word_in field =
    if bytes_eq field (codes "version") then Some words.Version
    else if bytes_eq field (codes "reach") then Some words.Reach
    else if bytes_eq field (codes "wall") then Some words.Wall
    else if bytes_eq field (codes "proof") then Some words.Proof
    else if bytes_eq field (codes "refute") then Some words.Refute
    else if bytes_eq field (codes "end") then Some words.End
    else None

abbrev pub version_in : List ℕ → Option Version
version_in field =
    if bytes_eq field (codes "1") then Some One
    else if bytes_eq field (codes "2") then Some Two
    else None

-- the two numbers that are the only fields
abbrev pub two_numbers : List (List ℕ) → Option (ℕ × ℕ)
two_numbers [] = None
two_numbers (field ∷ more) =
    option_and_then (λ m. option_map (λ n. (m, n)) (only number_in more)) (number_in field)

abbrev pub opening_of : Kind → ℕ × ℕ → WordLine
opening_of kind sizes = lines.Opening (record { kind = kind; clauses = sizes.0; uses = sizes.1 })

abbrev pub refutation_of : ℕ × ℕ → WordLine
refutation_of sizes = lines.Refutation (record { uses = sizes.0; proof_lines = sizes.1 })

abbrev pub end_behind : List (List ℕ) → Option WordLine
end_behind [] = Some lines.End
end_behind (field ∷ more) = None

-- what the fields behind a word make of the line
abbrev pub line_behind : Word → List (List ℕ) → Option WordLine
line_behind words.Version more = option_map (λ v. lines.Version v) (only version_in more)
line_behind words.Reach more = option_map (opening_of Reach) (two_numbers more)
line_behind words.Wall more = option_map (opening_of Wall) (two_numbers more)
line_behind words.Proof more = option_map (λ n. lines.Proof n) (only number_in more)
line_behind words.Refute more = option_map refutation_of (two_numbers more)
line_behind words.End more = end_behind more

abbrev pub word_line_in : List (List ℕ) → Option WordLine
word_line_in [] = None
word_line_in (field ∷ more) = option_and_then (λ word. line_behind word more) (word_in field)

-- The line that the bytes spell, if it begins with a word.
unfoldable pub word_line_of : List ℕ → Option WordLine
word_line_of bytes = word_line_in (fields bytes)
