-- The lines of a model's text. Each definition says what stands at the front of bytes, and what follows
-- it.
use Rattle.std.specs.Prelude.{◌≡◌, ℕ, ◌+◌, ◌*◌, ◌≤◌, ◌⊎◌, List, [], ◌∷◌, ◌++◌, length, take, drop, Option, Some, None}
use Rattle.std.specs.List.{All}
use Rattle.aig_semantics.specs.declared.limits.TheConstants.{MAX_NUMBER}
use Rattle.aig_semantics.specs.declared.parts.Latch.{Latch}
use Rattle.aig_semantics.specs.declared.parts.Gate.{Gate}
use Rattle.aig_semantics.specs.declared.parts.Reset.{Reset}
use Rattle.aig_semantics.specs.declared.parts.Reset.TheVariants.{Zero, One, Free}
use Rattle.text_grammar.specs.Numerals.{IsNumeral, IsField}
use Rattle.text_grammar.specs.Lines.{IsLine}
use Rattle.aiger_grammar.specs.declared.names.Symbol.{Symbol}

-- a number and a space, a number and a line feed
abbrev pub BeforeSpace : ℕ → List ℕ → List ℕ → Type 0
BeforeSpace n bytes rest = IsField MAX_NUMBER n 32 bytes rest

abbrev pub EndsLine : ℕ → List ℕ → List ℕ → Type 0
EndsLine n bytes rest = IsField MAX_NUMBER n 10 bytes rest

-- one line for each of the values, in their order
abbrev pub LinesOf : {X : Type 0} → (X → List ℕ → List ℕ → Type 0) → List X → List ℕ → List ℕ → Type 0
LinesOf Line [] bytes rest = bytes ≡ rest
LinesOf Line (x ∷ xs) bytes rest = (mid : List ℕ) × Line x bytes mid × LinesOf Line xs mid rest

-- the same, where what a line says depends on its number, which counts from k on
abbrev pub NumberedLines : {X : Type 0} → (ℕ → X → List ℕ → List ℕ → Type 0) → ℕ → List X → List ℕ → List ℕ → Type 0
NumberedLines Line k [] bytes rest = bytes ≡ rest
NumberedLines Line k (x ∷ xs) bytes rest = (mid : List ℕ) × Line k x bytes mid × NumberedLines Line (k + 1) xs mid rest

-- a variable, by its literal
abbrev pub InputLine : ℕ → List ℕ → List ℕ → Type 0
InputLine v bytes rest = EndsLine (2 * v) bytes rest

-- how a latch's reset is written: 0, 1, or the latch's own literal where it may begin with either value
abbrev pub reset_number : ℕ → Reset → ℕ
reset_number v Zero = 0
reset_number v One = 1
reset_number v Free = 2 * v

-- the latch's next literal and its reset; a reset of 0 may be missing
abbrev pub LatchEnd : Latch → List ℕ → List ℕ → Type 0
LatchEnd latch bytes rest =
    ((latch.reset ≡ Zero) × EndsLine latch.next bytes rest)
    ⊎ ((reset : List ℕ) × BeforeSpace latch.next bytes reset × EndsLine (reset_number latch.var latch.reset) reset rest)

-- the latch's literal, and then these
abbrev pub LatchLine : Latch → List ℕ → List ℕ → Type 0
LatchLine latch bytes rest = (mid : List ℕ) × BeforeSpace (2 * latch.var) bytes mid × LatchEnd latch mid rest

-- the gate's literal, and its right sides
abbrev pub GateLine : Gate → List ℕ → List ℕ → Type 0
GateLine gate bytes rest =
    (first : List ℕ) × (second : List ℕ) × BeforeSpace (2 * gate.var) bytes first × BeforeSpace gate.rhs0 first second
    × EndsLine gate.rhs1 second rest

-- the symbol's letter, index, and name
abbrev pub SymbolLine : Symbol → List ℕ → List ℕ → Type 0
SymbolLine symbol bytes rest =
    (index : List ℕ) × (name : List ℕ) × (bytes ≡ symbol.letter ∷ index) × BeforeSpace symbol.index index name
    × IsLine symbol.name name rest

-- a c and then the comment, up to the end; or nothing
abbrev pub CommentAtEnd : Option (List ℕ) → List ℕ → Type 0
CommentAtEnd None bytes = bytes ≡ []
CommentAtEnd (Some text) bytes = bytes ≡ 99 ∷ text

-- each number behind a space, and then a line feed
abbrev pub Numbers : List ℕ → List ℕ → List ℕ → Type 0
Numbers [] bytes rest = bytes ≡ 10 ∷ rest
Numbers (n ∷ ns) bytes rest =
    (number : List ℕ) × (others : List ℕ) × (bytes ≡ 32 ∷ number) × IsNumeral MAX_NUMBER n number others × Numbers ns others rest

-- A word and the first numbers of a header, at least five; those that are left out are 0.
pub record HeaderLine (word numbers : List ℕ) (shown : ℕ) (bytes rest : List ℕ) : Type 0 where
  pub numbers_at : List ℕ
  pub at_least : 5 ≤ shown
  pub at_most : shown ≤ length numbers
  pub left_out : All (λ n. n ≡ 0) (drop shown numbers)
  pub word_first : bytes ≡ word ++ numbers_at
  pub numbers_next : Numbers (take shown numbers) numbers_at rest
