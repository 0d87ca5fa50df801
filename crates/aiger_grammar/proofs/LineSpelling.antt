-- Each line, as it is written, stands at the front of what follows it.
use Rattle.std.proofs.Common.{◌≡◌, ℕ, ◌*◌, ◌≤◌, ◌⊎◌, Bool, true, false, cond, eqb, List, [], ◌∷◌, ◌++◌, length, take, drop, refl, sym, ap, subst, ◌∙◌, append_assoc, arith, inl, inr}
use Rattle.std.specs.Prelude.{decimal}
use Rattle.std.specs.List.{All, AllByRecursion, flat_map}
use Rattle.std.proofs.lemmas.List.Elements.{recursion_from_All}
use Rattle.std.proofs.lemmas.Bool.{eqb-true}
use Rattle.aig_semantics.specs.declared.limits.TheConstants.{MAX_NUMBER}
use Rattle.aig_semantics.specs.declared.parts.Latch.{Latch}
use Rattle.aig_semantics.specs.declared.parts.Gate.{Gate}
use Rattle.aig_semantics.specs.declared.parts.Reset.{Reset}
use Rattle.aig_semantics.specs.declared.parts.Reset.TheVariants.{Zero, One, Free}
use Rattle.text_grammar.specs.Numerals.{IsNumeral, begins_with_digit}
use Rattle.text_grammar.specs.Pieces.{Lacks}
use Rattle.aiger_grammar.specs.declared.names.Symbol.{Symbol}
use Rattle.aiger_grammar.specs.declared.names.Counts.{Counts}
use Rattle.aiger_grammar.specs.Lines.{EndsLine, BeforeSpace, LinesOf, InputLine, LatchLine, GateLine, SymbolLine, Numbers, reset_number}
use Rattle.aiger_grammar.specs.Names.{Fits, FittingLine}
use Rattle.aiger_grammar.specs.Spelling.{number_line, number_lines, input_line, next_line, latch_line, gate_line, symbol_line, spaced, before, without_zeros}

-- a number and a byte behind it that is no digit
numeral : (n byte : ℕ) (rest : List ℕ) → n ≤ MAX_NUMBER → begins_with_digit (byte ∷ rest) ≡ false → IsNumeral MAX_NUMBER n (decimal n ++ byte ∷ rest) (byte ∷ rest)
numeral n byte rest small no_digit = record { small = small; spelled = refl; whole = no_digit }

pub number_stands : (n : ℕ) (rest : List ℕ) → n ≤ MAX_NUMBER → EndsLine n (number_line n ++ rest) rest
number_stands n rest small = subst (λ b. EndsLine n b rest) (sym (append_assoc (decimal n) (10 ∷ []) rest)) (numeral n 10 rest small refl)

pub space_stands : (n : ℕ) (rest : List ℕ) → n ≤ MAX_NUMBER → BeforeSpace n (decimal n ++ 32 ∷ rest) rest
space_stands n rest small = numeral n 32 rest small refl

-- lines of which each stands where it is written
pub lines_stand : {A : Type 0} (Line : A → List ℕ → List ℕ → Type 0) (text : A → List ℕ) (P : A → Type 0) (xs : List A) (rest : List ℕ)
    → ((x : A) (more : List ℕ) → P x → Line x (text x ++ more) more) → AllByRecursion P xs → LinesOf Line xs (flat_map text xs ++ rest) rest
lines_stand Line text P [] rest each all = refl
lines_stand Line text P (x ∷ xs) rest each all = (
  flat_map text xs ++ rest,
  subst (λ b. Line x b (flat_map text xs ++ rest)) (sym (append_assoc (text x) (flat_map text xs) rest)) (each x (flat_map text xs ++ rest) all.0),
  lines_stand Line text P xs rest each all.1,
)

pub all_stand : {A : Type 0} (Line : A → List ℕ → List ℕ → Type 0) (text : A → List ℕ) (P : A → Type 0) (xs : List A) (rest : List ℕ)
    → ((x : A) (more : List ℕ) → P x → Line x (text x ++ more) more) → All P xs → LinesOf Line xs (flat_map text xs ++ rest) rest
all_stand Line text P xs rest each all = lines_stand Line text P xs rest each (recursion_from_All P xs all)

pub numbers_stand : (numbers : List ℕ) (rest : List ℕ) → All (λ n. n ≤ MAX_NUMBER) numbers → LinesOf EndsLine numbers (number_lines numbers ++ rest) rest
numbers_stand numbers rest all = all_stand EndsLine number_line (λ n. n ≤ MAX_NUMBER) numbers rest number_stands all

pub input_stands : (v : ℕ) (rest : List ℕ) → 2 * v ≤ MAX_NUMBER → InputLine v (input_line v ++ rest) rest
input_stands v rest small = number_stands (2 * v) rest small

-- ---- a latch

-- what stands behind the latch's own literal
abbrev pub NextStands : Latch → List ℕ → List ℕ → Type 0
NextStands latch bytes rest =
    ((latch.reset ≡ Zero) × EndsLine latch.next bytes rest)
    ⊎ ((reset : List ℕ) × BeforeSpace latch.next bytes reset × EndsLine (reset_number latch.var latch.reset) reset rest)

abbrev made : ℕ → ℕ → Reset → Latch
made v next reset = record { var = v; next = next; reset = reset }

next_made : (v next : ℕ) (reset : Reset) (rest : List ℕ) → 2 * v ≤ MAX_NUMBER → next ≤ MAX_NUMBER → NextStands (made v next reset) (next_line (made v next reset) ++ rest) rest
next_made v next Zero rest low small = inl (refl, number_stands next rest small)
next_made v next One rest low small = inr (
  number_line 1 ++ rest,
  subst (λ b. BeforeSpace next b (number_line 1 ++ rest)) (sym (append_assoc (decimal next) (32 ∷ number_line 1) rest)) (space_stands next (number_line 1 ++ rest) small),
  number_stands 1 rest (omega arith),
)
next_made v next Free rest low small = inr (
  number_line (2 * v) ++ rest,
  subst (λ b. BeforeSpace next b (number_line (2 * v) ++ rest)) (sym (append_assoc (decimal next) (32 ∷ number_line (2 * v)) rest)) (space_stands next (number_line (2 * v) ++ rest) small),
  number_stands (2 * v) rest low,
)

pub record LatchIsLow (latch : Latch) : Type 0 where
  pub var : 2 * latch.var ≤ MAX_NUMBER
  pub next : latch.next ≤ MAX_NUMBER

pub next_stands : (latch : Latch) (rest : List ℕ) → LatchIsLow latch → NextStands latch (next_line latch ++ rest) rest
next_stands latch rest low = next_made latch.var latch.next latch.reset rest low.var low.next

pub latch_stands : (latch : Latch) (rest : List ℕ) → LatchIsLow latch → LatchLine latch (latch_line latch ++ rest) rest
latch_stands latch rest low = (
  next_line latch ++ rest,
  subst (λ b. BeforeSpace (2 * latch.var) b (next_line latch ++ rest)) (sym (append_assoc (decimal (2 * latch.var)) (32 ∷ next_line latch) rest)) (space_stands (2 * latch.var) (next_line latch ++ rest) low.var),
  next_stands latch rest low,
)

-- ---- a gate

pub record GateIsLow (gate : Gate) : Type 0 where
  pub var : 2 * gate.var ≤ MAX_NUMBER
  pub rhs0 : gate.rhs0 ≤ MAX_NUMBER
  pub rhs1 : gate.rhs1 ≤ MAX_NUMBER

pub gate_stands : (gate : Gate) (rest : List ℕ) → GateIsLow gate → GateLine gate (gate_line gate ++ rest) rest
gate_stands gate rest low =
    let at_second = number_line gate.rhs1 ++ rest in
    let at_first = decimal gate.rhs0 ++ 32 ∷ at_second in
    let inner : (decimal gate.rhs0 ++ 32 ∷ number_line gate.rhs1) ++ rest ≡ at_first = append_assoc (decimal gate.rhs0) (32 ∷ number_line gate.rhs1) rest in
    let whole : gate_line gate ++ rest ≡ decimal (2 * gate.var) ++ 32 ∷ at_first =
    append_assoc (decimal (2 * gate.var)) (32 ∷ (decimal gate.rhs0 ++ 32 ∷ number_line gate.rhs1)) rest ∙ ap (λ t. decimal (2 * gate.var) ++ 32 ∷ t) inner in (
      at_first,
      at_second,
      subst (λ b. BeforeSpace (2 * gate.var) b at_first) (sym whole) (space_stands (2 * gate.var) at_first low.var),
      space_stands gate.rhs0 at_second low.rhs0,
      number_stands gate.rhs1 rest low.rhs1,
    )

-- ---- a symbol

pub record SymbolIsWritable (counts : Counts) (symbol : Symbol) : Type 0 where
  pub fits : Fits counts symbol
  pub index : symbol.index ≤ MAX_NUMBER
  pub one_line : Lacks symbol.name 10

pub symbol_line_stands : (symbol : Symbol) (rest : List ℕ) → symbol.index ≤ MAX_NUMBER → Lacks symbol.name 10 → SymbolLine symbol (symbol_line symbol ++ rest) rest
symbol_line_stands symbol rest low one_line =
    let at_name = symbol.name ++ 10 ∷ rest in
    let inner : (symbol.name ++ 10 ∷ []) ++ rest ≡ at_name = append_assoc symbol.name (10 ∷ []) rest in
    let index : (decimal symbol.index ++ 32 ∷ (symbol.name ++ 10 ∷ [])) ++ rest ≡ decimal symbol.index ++ 32 ∷ at_name =
    append_assoc (decimal symbol.index) (32 ∷ (symbol.name ++ 10 ∷ [])) rest ∙ ap (λ t. decimal symbol.index ++ 32 ∷ t) inner in (
      decimal symbol.index ++ 32 ∷ at_name,
      at_name,
      ap (λ t. symbol.letter ∷ t) index,
      space_stands symbol.index at_name low,
      record { spelled = refl; first = one_line },
    )

pub symbol_stands : (counts : Counts) (symbol : Symbol) (rest : List ℕ) → SymbolIsWritable counts symbol → FittingLine counts symbol (symbol_line symbol ++ rest) rest
symbol_stands counts symbol rest s = (s.fits, symbol_line_stands symbol rest s.index s.one_line)

-- ---- a header's numbers

no_digit_behind : (numbers rest : List ℕ) → begins_with_digit (spaced numbers ++ 10 ∷ rest) ≡ false
no_digit_behind [] rest = refl
no_digit_behind (n ∷ ns) rest = refl

pub spaced_stand : (numbers rest : List ℕ) → AllByRecursion (λ n. n ≤ MAX_NUMBER) numbers → Numbers numbers (spaced numbers ++ 10 ∷ rest) rest
spaced_stand [] rest all = refl
spaced_stand (n ∷ ns) rest all =
    let others = spaced ns ++ 10 ∷ rest in (
      decimal n ++ others,
      others,
      append_assoc (32 ∷ decimal n) (spaced ns) (10 ∷ rest),
      record { small = all.0; spelled = refl; whole = no_digit_behind ns rest },
      spaced_stand ns rest all.1,
    )

abbrev pub IsZero : ℕ → Type 0
IsZero n = n ≡ 0

-- what is left of numbers without the zeros at their end
abbrev pub Split : List ℕ → List ℕ → Type 0
Split numbers shown = (length shown ≤ length numbers) × (take (length shown) numbers ≡ shown) × AllByRecursion IsZero (drop (length shown) numbers)

zero_before : (n : ℕ) (ns : List ℕ) (t : Bool) → eqb n 0 ≡ t → Split ns [] → Split (n ∷ ns) (cond t [] (n ∷ []))
zero_before n ns true is s = (omega arith, refl, (eqb-true n 0 is, s.2))
zero_before n ns false is s = (omega arith, ap (λ k. n ∷ k) s.1, s.2)

split_before : (n : ℕ) (ns shown : List ℕ) → Split ns shown → Split (n ∷ ns) (before n shown)
split_before n ns [] s = zero_before n ns (eqb n 0) refl s
split_before n ns (m ∷ ms) s = (omega (arith, s.0), ap (λ k. n ∷ k) s.1, s.2)

pub zeros_split : (numbers : List ℕ) → Split numbers (without_zeros numbers)
zeros_split [] = (omega arith, refl, tt)
zeros_split (n ∷ ns) = split_before n ns (without_zeros ns) (zeros_split ns)
