-- Scaffolding: what a reader of lines keeps, for the clauses of inner functions.
use Rattle.std.specs.Prelude.{◌≡◌, ℕ, ◌-◌, ◌≤◌, Bool, List, [], ◌++◌, length, take, drop, if◌then◌else◌}
use Rattle.text_grammar.specs.Pieces.{Lacks}
use Rattle.answer_lines.specs.Left.{Reading, most_bytes}
use Rattle.answer_lines.specs.declared.lines.Lines.TheInside.{Inside}

-- the front of the next line that was moved out of the piece
abbrev pub front_of : Bool → List ℕ → List ℕ
front_of given line = if given then [] else line

-- the rest of the piece
abbrev pub rest_of : List ℕ → ℕ → ℕ → List ℕ
rest_of piece start end = take (end - start) (drop start piece)

-- the bytes in hand
abbrev pub ahead_of : Inside → List ℕ
ahead_of s = front_of s.given s.line.items ++ rest_of s.piece.items s.start s.end

abbrev pub reading_of : Inside → Reading
reading_of s = record {
  line = s.line.items;
  taken = s.place - length (ahead_of s);
  ahead = ahead_of s;
  last = s.last;
}

-- what always holds
pub record IsKept (s : Inside) : Type 0 where
  pub piece : length s.piece.items ≡ 4096
  pub order : s.start ≤ s.end
  pub inside : s.end ≤ 4096
  pub read : length (ahead_of s) ≤ s.place
  pub within : s.place ≤ most_bytes
  pub front : Lacks (front_of s.given s.line.items) 10

-- as much is given, the same is in hand, and the line that was given last ended as it did
pub record SameLeft (old new : Reading) : Type 0 where
  pub taken : new.taken ≡ old.taken
  pub ahead : new.ahead ≡ old.ahead
  pub last : new.last ≡ old.last
