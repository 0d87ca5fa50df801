-- The lines of an answer, numbered from 1. Those that begin with c or u are skipped everywhere.
use Rattle.std.specs.Prelude.{ℕ, ◌+◌, ◌-◌, List, [], ◌∷◌, map, length, take, if◌then◌else◌, nat_le}
use Rattle.text_grammar.specs.Lines.{lines_of}
use Rattle.text_grammar.specs.Pieces.{cut_at}
use Rattle.stimulus.specs.Texts.{is_skipped}
use Rattle.answer_lines.specs.Left.{most_bytes}

-- a line with its number
abbrev pub Numbered : Type 0
Numbered = ℕ × List ℕ

-- the lines that are not skipped, where the first line of all has this number
abbrev pub kept_from : ℕ → List (List ℕ) → List Numbered
kept_from number [] = []
kept_from number (line ∷ lines) =
    if is_skipped line then kept_from (number + 1) lines else (number, line) ∷ kept_from (number + 1) lines

abbrev pub kept_in : List ℕ → List Numbered
kept_in text = kept_from 1 (lines_of text)

-- the number that a line behind the last one would have
abbrev pub end_of : List ℕ → ℕ
end_of text = 1 + length (lines_of text)

-- the lines without their numbers
abbrev pub bare : List Numbered → List (List ℕ)
bare lines = map (λ line. line.1) lines

-- all but the last
abbrev pub but_last : List (List ℕ) → List (List ℕ)
but_last pieces = take (length pieces - 1) pieces

-- The lines of a text that end within the limit on its bytes: all of them, or in a longer text those behind which a line
-- feed stands there.
abbrev pub readable : List ℕ → List (List ℕ)
readable text = if nat_le (length text) most_bytes then lines_of text else but_last (cut_at 10 (take most_bytes text))

-- those of them that are not skipped
abbrev pub kept_readable : List ℕ → List Numbered
kept_readable text = kept_from 1 (readable text)
