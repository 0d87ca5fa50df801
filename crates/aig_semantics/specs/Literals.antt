-- Variables, literals, and what a list of values makes of them (AIGER 1.9; Biere, Heljanko, Wieringa, 2011).
use Rattle.std.specs.Prelude.{ℕ, ◌/◌, ◌%◌, ◌==◌, Bool, false, not, List, slice_index_or, if◌then◌else◌}

-- variable v has the literals 2v and 2v + 1
abbrev pub variable_of : ℕ → ℕ
variable_of literal = literal / 2

-- the second of them is the negated one
abbrev pub is_negated : ℕ → Bool
is_negated literal = (literal % 2) == 1

-- the value of a literal, from the values of variables
abbrev pub literal_by : (ℕ → Bool) → ℕ → Bool
literal_by value literal = if is_negated literal then not (value (variable_of literal)) else value (variable_of literal)

-- a list of values has the value of variable v at place v
abbrev pub variable_in : List Bool → ℕ → Bool
variable_in values v = slice_index_or values v false

abbrev pub literal_in : List Bool → ℕ → Bool
literal_in values literal = literal_by (variable_in values) literal
