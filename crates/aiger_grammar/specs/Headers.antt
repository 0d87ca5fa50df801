-- The first line of a model's text (AIGER 1.9; Biere, Heljanko, Wieringa, 2011), read from the left: a word, five
-- numbers, and up to four more. The faults, their order and their places are this program's.
use Rattle.std.specs.Prelude.{ℕ, Bool, ◌+◌, List, [], ◌∷◌, Result, Ok, Err, nat_le, codes, ◌==◌, if◌then◌else◌}
use Rattle.aig_semantics.specs.declared.limits.TheConstants.{MAX_VARIABLE}
use Rattle.circuit.specs.declared.faults.ModelFault.{ModelFault}
use Rattle.circuit.specs.declared.faults.ModelFault.TheVariants.{Header, Number, Limit}
use Rattle.aiger_grammar.specs.declared.sections.Heading.{Heading}
use Rattle.aiger_grammar.specs.Reading.{Reader, ◌>>=◌, byte_at, numeral_at}

-- the bytes of a word
unfoldable pub word_at : List ℕ → ℕ → Reader (Unit {0})
word_at [] total bytes = Ok (tt, bytes)
word_at (b ∷ word) total bytes = byte_at b total bytes >>= λ _ rest. word_at word total rest

-- a number behind a space
unfoldable pub shown_at : ℕ → Reader ℕ
shown_at total bytes = byte_at 32 total bytes >>= λ _ rest. numeral_at total rest

-- a number behind a space; 0 where there is no space
unfoldable pub optional_at : ℕ → Reader ℕ
optional_at total [] = Ok (0, [])
optional_at total (b ∷ rest) = if b == 32 then numeral_at total rest else Ok (0, b ∷ rest)

-- the numbers behind the word, M I L O A and then B C J F
unfoldable pub numbers_at : ℕ → Reader Heading
numbers_at total bytes =
    shown_at total bytes >>= λ max at_inputs.
    shown_at total at_inputs >>= λ inputs at_latches.
    shown_at total at_latches >>= λ latches at_outputs.
    shown_at total at_outputs >>= λ outputs at_gates.
    shown_at total at_gates >>= λ gates at_bad.
    optional_at total at_bad >>= λ bad at_constraints.
    optional_at total at_constraints >>= λ constraints at_justice.
    optional_at total at_justice >>= λ justice at_fairness.
    optional_at total at_fairness >>= λ fairness at_end.
    byte_at 10 total at_end >>= λ _ rest.
    Ok (record { max = max; inputs = inputs; latches = latches; outputs = outputs; gates = gates; bad = bad; constraints = constraints; justice = justice; fairness = fairness }, rest)

-- What is wrong with a number or a byte of the first line makes it no header. Where the text ends in it, that is the
-- fault.
abbrev pub as_header : {A : Type 0} → Result A ModelFault → Result A ModelFault
as_header (Ok x) = Ok x
as_header (Err (Number at)) = Err (Header 0)
as_header (Err fault) = Err fault

-- the word and the numbers
unfoldable pub first_line_at : List ℕ → ℕ → Reader Heading
first_line_at word total bytes = word_at word total bytes >>= λ _ rest. numbers_at total rest

-- the whole line
unfoldable pub heading_at : List ℕ → ℕ → Reader Heading
heading_at word total bytes = as_header (first_line_at word total bytes)

-- what inputs, latches and gates there are together
abbrev pub defined_count : Heading → ℕ
defined_count h = h.inputs + h.latches + h.gates

-- A header that fits or does not, where its greatest variable is within its limit.
abbrev pub within_limit : Bool → Heading → List ℕ → Result (Heading × List ℕ) ModelFault
within_limit fits h body =
    if fits then (if nat_le h.max MAX_VARIABLE then Ok (h, body) else Err (Limit 0)) else Err (Header 0)

-- An ASCII header: the greatest variable leaves room for inputs, latches and gates, and is within its limit.
unfoldable pub ascii_heading_at : ℕ → Reader Heading
ascii_heading_at total bytes =
    heading_at (codes "aag") total bytes >>= λ h body.
    within_limit (nat_le (defined_count h) h.max) h body
