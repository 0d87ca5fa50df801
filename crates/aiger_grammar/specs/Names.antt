-- Symbols and the comment at the end of a model's text (AIGER 1.9; Biere, Heljanko, Wieringa, 2011). The first fault in
-- them, its place, and that a comment does not begin with a digit are this program's.
use Rattle.std.specs.Prelude.{◌≡◌, ◌≢◌, ◌↔◌, ℕ, zero, suc, ◌-◌, ◌<◌, ◌==◌, Bool, true, false, not, ◌&&◌, ◌||◌, nat_lt, List, [], ◌∷◌, ◌++◌, length, Option, Some, None, IfSome, Result, Ok, Err, if◌then◌else◌}
use Rattle.aig_semantics.specs.declared.limits.TheConstants.{MAX_NUMBER}
use Rattle.text_grammar.specs.Numerals.{begins_with_digit, number_at}
use Rattle.circuit.specs.declared.faults.ModelFault.{ModelFault}
use Rattle.circuit.specs.declared.faults.ModelFault.TheVariants.{Trailing, Symbol as BadSymbol}
use Rattle.aiger_grammar.specs.declared.names.TheConstants.{INPUT, LATCH, OUTPUT, BAD, CONSTRAINT, JUSTICE, FAIRNESS}
use Rattle.aiger_grammar.specs.declared.names.Symbol.{Symbol}
use Rattle.aiger_grammar.specs.declared.names.Names.{Names}
use Rattle.aiger_grammar.specs.declared.names.Counts.{Counts}
use Rattle.aiger_grammar.specs.declared.sections.Heading.{Heading}
use Rattle.aiger_grammar.specs.Lines.{LinesOf, SymbolLine, CommentAtEnd}

-- how many elements each list has that symbols name
abbrev pub counts_of : Heading → Counts
counts_of h = record { i = h.inputs; l = h.latches; o = h.outputs; b = h.bad; c = h.constraints; j = h.justice; f = h.fairness }

-- how many elements the list has that a symbol's letter names, none where it names no list
abbrev pub count_of : Counts → ℕ → ℕ
count_of counts letter =
    if letter == INPUT then counts.i
    else if letter == LATCH then counts.l
    else if letter == OUTPUT then counts.o
    else if letter == BAD then counts.b
    else if letter == CONSTRAINT then counts.c
    else if letter == JUSTICE then counts.j
    else if letter == FAIRNESS then counts.f
    else 0

-- the byte is one of i l o b c j f
abbrev pub is_letter : ℕ → Bool
is_letter byte =
    byte == INPUT || (byte == LATCH || (byte == OUTPUT || (byte == BAD || (byte == CONSTRAINT || (byte == JUSTICE || byte == FAIRNESS)))))

-- the symbol names an element that is there, by at least one byte
pub record Fits (counts : Counts) (symbol : Symbol) : Type 0 where
  pub index : symbol.index < count_of counts symbol.letter
  pub named : symbol.name ≢ []

-- the line of such a symbol
abbrev pub FittingLine : Counts → Symbol → List ℕ → List ℕ → Type 0
FittingLine counts symbol bytes rest = Fits counts symbol × SymbolLine symbol bytes rest

-- the text ends here, or a c that no digit follows opens the comment
abbrev pub ends_symbols : List ℕ → Bool
ends_symbols [] = true
ends_symbols (byte ∷ text) = byte == CONSTRAINT && not (begins_with_digit text)

-- The bytes are these symbols and this comment, to their end.
pub record AreNames (counts : Counts) (names : Names) (bytes : List ℕ) : Type 0 where
  pub at_comment : List ℕ
  pub symbols : LinesOf (FittingLine counts) names.symbols bytes at_comment
  pub comment : CommentAtEnd names.comment at_comment
  pub no_digit : IfSome names.comment (λ text. begins_with_digit text ≡ false)

-- the fault at bytes that are not empty and at which neither a symbol nor a comment stands, in a text of total bytes
abbrev pub fault_at : ℕ → List ℕ → ModelFault
fault_at total [] = Trailing total
fault_at total (byte ∷ bytes) =
    if is_letter byte then BadSymbol (total - length (byte ∷ bytes)) else Trailing (total - length (byte ∷ bytes))

-- Behind some symbols there is neither the end of the text nor a comment nor a further symbol.
pub record HasNamesFault (counts : Counts) (total : ℕ) (bytes : List ℕ) (fault : ModelFault) : Type 0 where
  pub symbols : List Symbol
  pub behind : List ℕ
  pub before : LinesOf (FittingLine counts) symbols bytes behind
  pub goes_on : ends_symbols behind ≡ false
  pub no_symbol : (symbol : Symbol) (rest : List ℕ) → FittingLine counts symbol behind rest → ⊥
  pub is : fault ≡ fault_at total behind

-- ---- the same, read from the left

abbrev pub in_line : ℕ → Option (List ℕ × List ℕ) → Option (List ℕ × List ℕ)
in_line byte None = None
in_line byte (Some x) = Some (byte ∷ x.0, x.1)

-- the bytes in front of the first line feed, and those behind it
unfoldable pub line_at : List ℕ → Option (List ℕ × List ℕ)
line_at [] = None
line_at (byte ∷ bytes) = if byte == 10 then Some ([], bytes) else in_line byte (line_at bytes)

-- there is a byte
abbrev pub has_byte : List ℕ → Bool
has_byte [] = false
has_byte (byte ∷ bytes) = true

-- a symbol by its letter, its index, and what is read as its name
unfoldable pub named_at : Counts → ℕ → ℕ → Option (List ℕ × List ℕ) → Option (Symbol × List ℕ)
named_at counts letter index None = None
named_at counts letter index (Some name) =
    if nat_lt index (count_of counts letter) && has_byte name.0
    then Some (record { letter = letter; index = index; name = name.0 }, name.1) else None

-- a symbol by its letter and index, and what stands behind these
unfoldable pub spaced_at : Counts → ℕ → ℕ → List ℕ → Option (Symbol × List ℕ)
spaced_at counts letter index [] = None
spaced_at counts letter index (byte ∷ bytes) = if byte == 32 then named_at counts letter index (line_at bytes) else None

-- a symbol by its letter, and what is read as its index
unfoldable pub indexed_at : Counts → ℕ → Option (ℕ × List ℕ) → Option (Symbol × List ℕ)
indexed_at counts letter None = None
indexed_at counts letter (Some index) = spaced_at counts letter index.0 index.1

-- the symbol whose line is at the front, and what stands behind it
unfoldable pub symbol_at : Counts → List ℕ → Option (Symbol × List ℕ)
symbol_at counts [] = None
symbol_at counts (letter ∷ bytes) = indexed_at counts letter (number_at MAX_NUMBER bytes)

abbrev pub in_front : List Symbol → Result (List Symbol × List ℕ) ModelFault → Result (List Symbol × List ℕ) ModelFault
in_front symbols (Ok read) = Ok (symbols ++ read.0, read.1)
in_front symbols (Err fault) = Err fault

-- a symbol and then others, or the fault where there is none
abbrev pub and_others : Option (Symbol × List ℕ) → ModelFault → (List ℕ → Result (List Symbol × List ℕ) ModelFault) → Result (List Symbol × List ℕ) ModelFault
and_others None fault others = Err fault
and_others (Some first) fault others = in_front (first.0 ∷ []) (others first.1)

-- at most so many symbols, and what stands behind them
unfoldable pub symbols_at : ℕ → Counts → ℕ → List ℕ → Result (List Symbol × List ℕ) ModelFault
symbols_at zero counts total bytes = Ok ([], bytes)
symbols_at (suc most) counts total bytes =
    if ends_symbols bytes then Ok ([], bytes)
    else and_others (symbol_at counts bytes) (fault_at total bytes) (λ rest. symbols_at most counts total rest)

-- the comment that such an end is
abbrev pub comment_at : List ℕ → Option (List ℕ)
comment_at [] = None
comment_at (byte ∷ text) = Some text

abbrev pub and_comment : Result (List Symbol × List ℕ) ModelFault → Result Names ModelFault
and_comment (Ok read) = Ok (record { symbols = read.0; comment = comment_at read.1 })
and_comment (Err fault) = Err fault

-- The symbols and the comment that the bytes are, or the first fault, by its place in a text of total bytes that ends
-- with them.
unfoldable pub names_at : Counts → ℕ → List ℕ → Result Names ModelFault
names_at counts total bytes = and_comment (symbols_at (length bytes) counts total bytes)

-- ---- laws

-- the names that are read are those that stand there
abbrev pub ReadsNames : Type 0
ReadsNames =
    (counts : Counts) (total : ℕ) (names : Names) (bytes : List ℕ)
    → (names_at counts total bytes ≡ Ok names) ↔ AreNames counts names bytes

-- the fault that is read is the first one
abbrev pub ReadsFirstFault : Type 0
ReadsFirstFault =
    (counts : Counts) (total : ℕ) (fault : ModelFault) (bytes : List ℕ)
    → (names_at counts total bytes ≡ Err fault) ↔ HasNamesFault counts total bytes fault
