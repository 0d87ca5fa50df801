-- The marks of a model's variables, as its definitions and then its uses are gone through (scaffolding).
use Rattle.std.specs.Prelude.{◌≡◌, ◌≢◌, ℕ, ◌<◌, ◌+◌, List, length, replicate, slice_set, slice_index_or}
use Rattle.aig_semantics.specs.Literals.{variable_of}
use Rattle.circuit.specs.declared.marks.Mark.{Mark}
use Rattle.circuit.specs.declared.marks.Mark.TheVariants.{Nowhere, Once, Twice, Missing}

-- the mark after one more definition
abbrev pub defined_again : Mark → Mark
defined_again Nowhere = Once
defined_again Once = Twice
defined_again Twice = Twice
defined_again Missing = Twice

-- the mark after a use
abbrev pub when_used : Mark → Mark
when_used Nowhere = Missing
when_used Once = Once
when_used Twice = Twice
when_used Missing = Missing

-- The marks before all definitions: variable 0 is defined, since it is false.
abbrev pub first_marks : ℕ → List Mark
first_marks max = slice_set (replicate (max + 1) Nowhere) 0 Once

-- the marks after a definition of variable v
unfoldable pub with_definition : List Mark → ℕ → List Mark
with_definition marks v = slice_set marks v (defined_again (slice_index_or marks v Nowhere))

-- the marks after a use of a literal
unfoldable pub with_use : List Mark → ℕ → List Mark
with_use marks literal = slice_set marks (variable_of literal) (when_used (slice_index_or marks (variable_of literal) Nowhere))

-- v is the first place with this mark
pub record IsFirstMarked (marks : List Mark) (mark : Mark) (v : ℕ) : Type 0 where
  pub inside : v < length marks
  pub here : slice_index_or marks v Nowhere ≡ mark
  pub before : (u : ℕ) → u < v → slice_index_or marks u Nowhere ≢ mark
