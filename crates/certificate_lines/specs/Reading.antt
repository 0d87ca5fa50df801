-- Scaffolding of inner functions: what is left of a line.
use Rattle.std.specs.Prelude.{ℕ, List, [], ◌++◌, Option, None, Some, option_map}
use Rattle.std.specs.Borrow.{Bor}
use Rattle.text_grammar.specs.Pieces.{fields}

-- the fields of what is left, if anything is
abbrev pub fields_behind : Option (Bor (List ℕ)) → List (List ℕ)
fields_behind None = []
fields_behind (Some rest) = fields rest.now

-- what was read, in front of what else is read
abbrev pub behind : {A : Type 0} → List A → Option (List A) → Option (List A)
behind read more = option_map (λ found. read ++ found) more
