-- Scaffolding of inner functions. What the reader of a line has read.
use Rattle.std.specs.Prelude.{ℕ, Bool, true, false, List, [], ◌++◌, map, Option, None, Some}
use Rattle.std.specs.Option.{option_copied}
use Rattle.std.specs.Borrow.{Bor}
use Rattle.text_grammar.specs.Pieces.{fields}
use Rattle.proof_semantics.specs.Lines.{Line, addition, deletion}
use Rattle.proof_semantics.specs.declared.literals.Lit.{Lit}
use Rattle.lrat.specs.declared.lines.Kind.{Kind}
use Rattle.lrat.specs.declared.lines.Kind.TheVariants.{Addition, Deletion}

-- what is left of a line, if anything is
abbrev pub behind : Option (Bor (List ℕ)) → Option (List ℕ)
behind rest = option_copied rest

-- the fields of what is left
abbrev pub fields_behind : Option (List ℕ) → List (List ℕ)
fields_behind None = []
fields_behind (Some rest) = fields rest

-- numbers that were read, in front of what else is read
abbrev pub front : List Lit → List Lit × List (List ℕ) → List Lit × List (List ℕ)
front numbers found = (numbers ++ found.0, found.1)

-- all numbers that were read, with the fields that follow, where the reading came to its end
abbrev pub found_behind : List Lit → Option (Option (Bor (List ℕ))) → Option (List Lit × List (List ℕ))
found_behind numbers None = None
found_behind numbers (Some rest) = Some (numbers, fields_behind (behind rest))

-- the line of a kind, with the numbers that are kept beside it
abbrev pub shape : Option Kind → List Lit → List Lit → Option Line
shape None numbers hints = None
shape (Some (Addition id)) literals hints = Some (addition id literals hints)
shape (Some (Deletion id)) ids hints = Some (deletion id (map (λ a. a.var) ids))

-- the line, where the text is one
abbrev pub given_if : Bool → Line → Option Line
given_if true line = Some line
given_if false line = None
