-- The variables that were met, in the order in which they came. The number of each is its place among them, and a literal
-- over a number stands for the one over its variable.
use Rattle.std.specs.Prelude.{◌≡◌, ℕ, ◌+◌, ◌<◌, List, [], ◌∷◌, ◌++◌, length, Option, None, Some, is_some, if◌then◌else◌, ◌==◌, slice_index_or}
use Rattle.std.specs.Option.{option_map}
use Rattle.proof_semantics.specs.declared.literals.Lit.{Lit}
use Rattle.packed_literals.specs.Packing.{literal}

-- the place of a variable
abbrev pub place_among : List ℕ → ℕ → Option ℕ
place_among [] var = None
place_among (name ∷ names) var = if name == var then Some 0 else option_map (λ place. place + 1) (place_among names var)

-- the names, once this variable was met too
abbrev pub with_name : List ℕ → ℕ → List ℕ
with_name names var = if is_some (place_among names var) then names else names ++ var ∷ []

-- the variable with a number; 0 past the end
abbrev pub name_of : List ℕ → ℕ → ℕ
name_of names number = slice_index_or names number 0

-- No variable comes twice: each is found first where it stands.
abbrev pub AreApart : List ℕ → Type 0
AreApart names = (number : ℕ) → number < length names → place_among names (name_of names number) ≡ Some number

-- the literal over a variable, by the one over its number
abbrev pub named : List ℕ → Lit → Lit
named names a = literal (name_of names a.var) a.positive
