-- What is left of a text whose lines are given one by one.
use Rattle.std.specs.Prelude.{◌≡◌, ◌≢◌, ◌⊎◌, ℕ, ◌+◌, ◌-◌, ◌^◌, ◌<◌, Bool, true, false, List, [], ◌∷◌, ◌++◌, Option, Result, Ok, Err, length, take, drop}
use Rattle.edge.specs.Told.{IfTold}
use Rattle.text_grammar.specs.Lines.{IsLine}
use Rattle.text_grammar.specs.Pieces.{Lacks}
use Rattle.answer_lines.specs.declared.ends.LinesEnd.{LinesEnd}
use Rattle.answer_lines.specs.declared.ends.LinesEnd.TheVariants as ends

-- where the reading of lines stands
pub record Reading : Type 0 where
  -- the line that was given last; any bytes where the last call gave none
  pub line : List ℕ
  -- how many bytes the given lines have, with their line feeds
  pub taken : ℕ
  -- the bytes behind them that are in hand
  pub ahead : List ℕ
  -- the text's end, and no line feed, ended the line that was given last
  pub last : Bool

-- before the first line
abbrev pub at_start : Reading
at_start = record { line = []; taken = 0; ahead = []; last = false }

-- the bytes of a text that were not given: those in hand, and those that were not read
abbrev pub left_of : Reading → List ℕ → List ℕ
left_of reading text = reading.ahead ++ drop (reading.taken + length reading.ahead) text

-- as much is given as before, and the same is left of the text, where that is told
pub record StaysLeft (told : Option (List ℕ)) (old new : Reading) : Type 0 where
  pub taken : new.taken ≡ old.taken
  pub left : IfTold told (λ text. left_of new text ≡ left_of old text)
  pub last : new.last ≡ old.last

-- the line, where one was given
abbrev pub given_line : Bool → List ℕ → List (List ℕ)
given_line true line = line ∷ []
given_line false line = []

-- how many bytes of a text may be given
abbrev pub most_bytes : ℕ
most_bytes = 2 ^ 63 - 1

-- neither a line feed nor the text's end ends the next line within so many bytes
pub record IsTooLong (room : ℕ) (left : List ℕ) : Type 0 where
  pub longer : room < length left
  pub unended : Lacks (take room left) 10

-- the line was given with its line feed, which ended it
pub record TookLine (told : Option (List ℕ)) (old new : Reading) : Type 0 where
  pub goes_on : new.last ≡ false
  pub taken : new.taken ≡ old.taken + length new.line + 1
  pub left : IfTold told (λ text. IsLine new.line (left_of old text) (left_of new text))

-- the line was given, and is all that was left: the text's end ended it
pub record TookLast (told : Option (List ℕ)) (old new : Reading) : Type 0 where
  pub last : new.last ≡ true
  pub taken : new.taken ≡ old.taken + length new.line
  pub some : new.line ≢ []
  pub left : IfTold told (λ text. (left_of old text ≡ new.line) × (left_of new text ≡ []))

-- a line was given
abbrev pub Took : Option (List ℕ) → Reading → Reading → Type 0
Took told old new = TookLine told old new ⊎ TookLast told old new

-- the reading of a line ended with a failed read
abbrev pub is_read_fault : {T : Type 0} → Result T LinesEnd → Bool
is_read_fault (Ok given) = false
is_read_fault (Err ends.ReadFault) = true
is_read_fault (Err ends.TooLong) = false
is_read_fault (Err ends.Memory) = false
