-- Reading the text of a model (AIGER 1.9; Biere, Heljanko, Wieringa, 2011) from the left: a reader gives a value and
-- the bytes behind it, or the first fault with its place. The faults, their order and their places are this program's.
-- A place is how many bytes of the whole text, of which there are total, stand in front.
use Rattle.std.specs.Prelude.{ℕ, zero, suc, ◌+◌, ◌-◌, Bool, not, ◌&&◌, ◌||◌, List, [], ◌∷◌, length, Option, Some, None, Result, Ok, Err, nat_le, nat_lt, ◌==◌, if◌then◌else◌}
use Rattle.aig_semantics.specs.declared.limits.TheConstants.{MAX_NUMBER, MAX_PROPERTY_LITERALS}
use Rattle.aig_semantics.specs.Literals.{variable_of, is_negated}
use Rattle.text_grammar.specs.Numerals.{number_at}
use Rattle.circuit.specs.declared.faults.ModelFault.{ModelFault}
use Rattle.circuit.specs.declared.faults.ModelFault.TheVariants.{Number, Range, Truncated, Limit}
use Rattle.circuit.specs.declared.faults.ModelEnd.{ModelEnd}
use Rattle.circuit.specs.declared.faults.ModelEnd.TheVariants as ends
use Rattle.aiger_grammar.specs.declared.sections.Test.{Test}
use Rattle.aiger_grammar.specs.declared.sections.Test.TheVariants as tests

abbrev pub Reader : Type 0 → Type 0
Reader A = List ℕ → Result (A × List ℕ) ModelFault

-- what is read next, from the value and the bytes behind it
infixl 10 ◌>>=◌
abbrev pub ◌>>=◌ : {A B : Type 0} → Result (A × List ℕ) ModelFault → (A → List ℕ → Result B ModelFault) → Result B ModelFault
(Ok x) >>= f = f x.0 x.1
(Err e) >>= f = Err e

-- as many values as the second number says, one behind the other; the reader is told which number each has, counted
-- from the first number on
unfoldable pub many : {A : Type 0} → (ℕ → Reader A) → ℕ → ℕ → Reader (List A)
many read k zero bytes = Ok ([], bytes)
many read k (suc n) bytes =
    read k bytes >>= λ x after.
    many read (k + 1) n after >>= λ xs rest.
    Ok (x ∷ xs, rest)

-- as many lines, each read alike
abbrev pub lines_at : {A : Type 0} → Reader A → ℕ → Reader (List A)
lines_at read count bytes = many (λ _. read) 0 count bytes

abbrev pub place : ℕ → List ℕ → ℕ
place total bytes = total - length bytes

-- no number, or another byte than the line needs: at the end of the text it is cut off
abbrev pub unfit : ℕ → List ℕ → ModelFault
unfit total [] = Truncated total
unfit total (b ∷ rest) = Number (place total (b ∷ rest))

-- a byte that has to stand there
unfoldable pub byte_at : ℕ → ℕ → Reader (Unit {0})
byte_at byte total [] = Err (unfit total [])
byte_at byte total (b ∷ rest) = if b == byte then Ok (tt, rest) else Err (unfit total (b ∷ rest))

-- what was found, or the fault where nothing was
abbrev pub or_unfit : {A : Type 0} → ℕ → List ℕ → Option A → Result A ModelFault
or_unfit total bytes (Some x) = Ok x
or_unfit total bytes None = Err (unfit total bytes)

-- a number in its form, with all of its digits
unfoldable pub numeral_at : ℕ → Reader ℕ
numeral_at total bytes = or_unfit total bytes (number_at MAX_NUMBER bytes)

-- whether the number may stand where this is asked
abbrev pub passes : Test → ℕ → Bool
passes (tests.Variable max) n = not (is_negated n) && (nat_lt 0 n && nat_le (variable_of n) max)
passes (tests.Literal max) n = nat_le (variable_of n) max
passes (tests.Reset literal) n = nat_le n 1 || n == literal
passes (tests.Size fairness) n = nat_le (n + fairness) MAX_PROPERTY_LITERALS

-- the fault of a number at this place that may not stand there
abbrev pub test_fault : Test → ℕ → ModelFault
test_fault (tests.Variable max) at = Range at
test_fault (tests.Literal max) at = Range at
test_fault (tests.Reset literal) at = Range at
test_fault (tests.Size fairness) at = Limit at

-- a number that may stand there
unfoldable pub value_at : Test → ℕ → Reader ℕ
value_at test total bytes =
    numeral_at total bytes >>= λ n rest.
    if passes test n then Ok (n, rest) else Err (test_fault test (place total bytes))

-- such a number, and the byte that ends it
unfoldable pub field_at : Test → ℕ → ℕ → Reader ℕ
field_at test stop total bytes =
    value_at test total bytes >>= λ n after.
    byte_at stop total after >>= λ _ rest.
    Ok (n, rest)

-- what a call answers where this is read
abbrev pub answer_of : {A : Type 0} → Result A ModelFault → Result A ModelEnd
answer_of (Ok x) = Ok x
answer_of (Err fault) = Err (ends.Fault fault)
