-- Lines, which end with a line feed; one that is missing at the very end of a text is read as there.
use Rattle.std.specs.Prelude.{◌≡◌, ◌⊎◌, ℕ, List, [], ◌∷◌, ◌++◌, flat_map}
use Rattle.text_grammar.specs.Pieces.{IsCut, Lacks, cut_at}

-- line stands at the front of bytes, a line feed ends it, and rest follows that
abbrev pub IsLine : List ℕ → List ℕ → List ℕ → Type 0
IsLine line bytes rest = IsCut 10 line bytes rest

-- line stands at the front of bytes, up to a line feed that rest follows, or up to the end of the text
abbrev pub IsNextLine : List ℕ → List ℕ → List ℕ → Type 0
IsNextLine line bytes rest = IsLine line bytes rest ⊎ ((line ≡ bytes) × (rest ≡ []) × Lacks bytes 10)

-- what follows the last line feed is a line where it has a byte
abbrev pub unended_line : List ℕ → List (List ℕ)
unended_line [] = []
unended_line (byte ∷ bytes) = (byte ∷ bytes) ∷ []

-- the pieces between the line feeds, but for an empty one at the end
abbrev pub lines_of_pieces : List (List ℕ) → List (List ℕ)
lines_of_pieces [] = []
lines_of_pieces (piece ∷ []) = unended_line piece
lines_of_pieces (piece ∷ next ∷ pieces) = piece ∷ lines_of_pieces (next ∷ pieces)

-- the lines of a text: a and a line feed are the one line a, and so is a alone; the empty text has no line
abbrev pub lines_of : List ℕ → List (List ℕ)
lines_of bytes = lines_of_pieces (cut_at 10 bytes)

-- the text of the lines, each with a line feed behind it
abbrev pub ended_lines : List (List ℕ) → List ℕ
ended_lines lines = flat_map (λ line. line ++ 10 ∷ []) lines
