-- Ternary values: Kleene's strong logic of three values (On notation for ordinal numbers, 1938), which simulation with
-- unknown values uses (Eichelberger, Hazard detection in combinational and sequential switching circuits, 1965).
use Rattle.std.specs.Prelude.{◌≡◌, ℕ, Bool, true, false, List, slice_index_or, ◌⊎◌, if◌then◌else◌}
use Rattle.std.specs.List.{AllZip}
use Rattle.aig_semantics.specs.Literals.{variable_of, is_negated}
use Rattle.ternary.specs.declared.values.Value3.{Value3}
use Rattle.ternary.specs.declared.values.Value3.TheVariants.{Zero, One, X}

-- the negation; that of X is X
abbrev pub negation3 : Value3 → Value3
negation3 Zero = One
negation3 One = Zero
negation3 X = X

-- the conjunction: 0 where one of the two is 0, 1 where both are 1, else X
abbrev pub and3 : Value3 → Value3 → Value3
and3 Zero b = Zero
and3 One b = b
and3 X Zero = Zero
and3 X One = X
and3 X X = X

-- a truth value as a ternary one
abbrev pub known : Bool → Value3
known false = Zero
known true = One

-- the value of a literal, from the values of variables
abbrev pub literal3_by : (ℕ → Value3) → ℕ → Value3
literal3_by value literal =
    if is_negated literal then negation3 (value (variable_of literal)) else value (variable_of literal)

-- a list of values has the value of variable v at place v
abbrev pub variable3_in : List Value3 → ℕ → Value3
variable3_in values v = slice_index_or values v Zero

abbrev pub literal3_in : List Value3 → ℕ → Value3
literal3_in values literal = literal3_by (variable3_in values) literal

-- the value is X, or is this truth value
abbrev pub Allows : Value3 → Bool → Type 0
Allows value b = (value ≡ X) ⊎ (value ≡ known b)

-- truth values as many as ternary ones; each ternary value that is not X is the truth value at its place
abbrev pub IsCompletion : List Value3 → List Bool → Type 0
IsCompletion values bools = AllZip Allows values bools
