-- The laws of numerals, of pieces and of lines.
use Rattle.std.specs.Prelude.{◌≡◌, ◌≢◌, ℕ, ◌<◌, ◌^◌, ◌⊎◌, ◌↔◌, List, [], ◌∷◌, ◌++◌, Some, All}
use Rattle.std.specs.List.{join_with_byte}
use Rattle.text_grammar.specs.Numerals.{IsNumeral, number_at}
use Rattle.text_grammar.specs.Pieces.{Lacks, IsCut, cut_at}
use Rattle.text_grammar.specs.Lines.{IsLine, lines_of, ended_lines}

-- what is read is the number that stands there
abbrev pub ReadsNumerals : Type 0
ReadsNumerals =
    (limit n : ℕ) (bytes rest : List ℕ) → limit < 2 ^ 63
    → (number_at limit bytes ≡ Some (n, rest)) ↔ IsNumeral limit n bytes rest

-- at most one number stands at the front of a text
abbrev pub HasOneNumeral : Type 0
HasOneNumeral =
    (limit m n : ℕ) (bytes rest more : List ℕ) → limit < 2 ^ 63
    → IsNumeral limit m bytes rest → IsNumeral limit n bytes more → (m ≡ n) × (rest ≡ more)

-- the pieces, joined by the byte again, are the text
abbrev pub JoinsPieces : Type 0
JoinsPieces = (byte : ℕ) (bytes : List ℕ) → join_with_byte byte (cut_at byte bytes) ≡ bytes

-- no piece has the byte
abbrev pub PiecesLackByte : Type 0
PiecesLackByte = (byte : ℕ) (bytes : List ℕ) → All (λ piece. Lacks piece byte) (cut_at byte bytes)

-- pieces without the byte, joined by it, are cut into these pieces
abbrev pub CutsJoined : Type 0
CutsJoined =
    (byte : ℕ) (piece : List ℕ) (pieces : List (List ℕ)) → All (λ p. Lacks p byte) (piece ∷ pieces)
    → cut_at byte (join_with_byte byte (piece ∷ pieces)) ≡ piece ∷ pieces

-- the first piece is what stands in front of the first such byte, and the others are those of what follows it
abbrev pub CutsFirst : Type 0
CutsFirst =
    (byte : ℕ) (piece bytes rest : List ℕ) → IsCut byte piece bytes rest
    → cut_at byte bytes ≡ piece ∷ cut_at byte rest

-- a text without the byte is the one piece
abbrev pub CutsNone : Type 0
CutsNone = (byte : ℕ) (bytes : List ℕ) → Lacks bytes byte → cut_at byte bytes ≡ bytes ∷ []

-- what a line feed ends is the first line, and the others are those of what follows it
abbrev pub FirstLine : Type 0
FirstLine = (line bytes rest : List ℕ) → IsLine line bytes rest → lines_of bytes ≡ line ∷ lines_of rest

-- bytes without a line feed are one line
abbrev pub LastLine : Type 0
LastLine = (bytes : List ℕ) → Lacks bytes 10 → bytes ≢ [] → lines_of bytes ≡ bytes ∷ []

-- the empty text has no line
abbrev pub NoLine : Type 0
NoLine = lines_of [] ≡ []

-- no line has a line feed
abbrev pub LinesLackLineFeed : Type 0
LinesLackLineFeed = (bytes : List ℕ) → All (λ line. Lacks line 10) (lines_of bytes)

-- lines that are written, each with its line feed, are read again
abbrev pub ReadsWrittenLines : Type 0
ReadsWrittenLines =
    (lines : List (List ℕ)) → All (λ line. Lacks line 10) lines → lines_of (ended_lines lines) ≡ lines

-- the lines of a text, each with its line feed, are the text, or the text and the line feed that is missing at its end
abbrev pub LinesAreText : Type 0
LinesAreText =
    (bytes : List ℕ)
    → (ended_lines (lines_of bytes) ≡ bytes) ⊎ (ended_lines (lines_of bytes) ≡ bytes ++ 10 ∷ [])
