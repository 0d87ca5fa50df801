-- The laws of one symbol's line.
use Rattle.std.proofs.Common.{◌≡◌, ◌≢◌, ℕ, suc, ◌+◌, ◌<◌, ◌^◌, Bool, true, false, not, ◌&&◌, cond, eqb, ltb, List, [], ◌∷◌, ◌++◌, length, Option, Some, None, refl, sym, ap, subst, ◌∙◌, arith, lit<, true≢false, length-append}
use Rattle.std.specs.Prelude.{decimal}
use Rattle.std.specs.Int.{IsInRange}
use Rattle.std.specs.Str.Parse.{AllDigits}
use Rattle.std.proofs.Math.Bool.{and-false}
use Rattle.std.proofs.lemmas.Bool.{eqb-true, eqb-false, ne_eqb, ltb-true, lt-ltb, le-leb}
use Rattle.std.proofs.lemmas.Option.{same_Some, none-some}
use Rattle.std.proofs.lemmas.Str.Parse.{digit_from_value}
use Rattle.std.proofs.lemmas.Fmt.{decimal_is_IsNumeral, decimal_nonempty}
use Rattle.std.proofs.lemmas.List.Elements.{All-cons, All-head, All-tail, All-nil}
use Rattle.aig_semantics.specs.declared.limits.TheConstants.{MAX_NUMBER}
use Rattle.text_grammar.specs.Numerals.{IsNumeral, is_digit, begins_with_digit, number_at}
use Rattle.text_grammar.specs.Pieces.{Lacks}
use Rattle.text_grammar.specs.Lines.{IsLine}
use Rattle.text_grammar.proofs.NumeralLaws.{read_stands, stands_read, both}
use Rattle.aiger_grammar.specs.declared.names.Symbol.{Symbol}
use Rattle.aiger_grammar.specs.declared.names.Counts.{Counts}
use Rattle.aiger_grammar.specs.Lines.{SymbolLine}
use Rattle.aiger_grammar.specs.Names.{count_of, FittingLine, ends_symbols, in_line, line_at, has_byte, named_at, spaced_at, indexed_at, symbol_at}

abbrev Pair : Type 0 → Type 0
Pair A = A × List ℕ

-- ---- lines

in_line_some : (byte : ℕ) (read : Option (List ℕ × List ℕ)) (line rest : List ℕ) → in_line byte read ≡ Some (line, rest)
    → (front : List ℕ) × (read ≡ Some (front, rest)) × (byte ∷ front ≡ line)
in_line_some byte None line rest e = absurd (none-some _ e)
in_line_some byte (Some x) line rest e =
    let p = same_Some (byte ∷ x.0, x.1) (line, rest) e in
    (x.0, ap (λ r. Some (x.0, r)) (ap (λ q. q.1) p), ap (λ q. q.0) p)

line_step : (byte : ℕ) (bytes line rest : List ℕ) (test : Bool) → eqb byte 10 ≡ test
    → ((l r : List ℕ) → line_at bytes ≡ Some (l, r) → IsLine l bytes r)
    → cond test (Some ([], bytes)) (in_line byte (line_at bytes)) ≡ Some (line, rest) → IsLine line (byte ∷ bytes) rest
line_step byte bytes line rest true feed more e =
    let p = same_Some ([], bytes) (line, rest) e in
    subst (λ l. IsLine l (byte ∷ bytes) rest) (ap (λ q. q.0) p)
    (record { spelled = ap (λ b. b ∷ bytes) (eqb-true byte 10 feed) ∙ ap (λ r. 10 ∷ r) (ap (λ q. q.1) p); first = All-nil _ })
line_step byte bytes line rest false feed more e =
    let p = in_line_some byte (line_at bytes) line rest e in
    let tail = more p.0 rest p.1 in
    subst (λ l. IsLine l (byte ∷ bytes) rest) p.2
    (record { spelled = ap (λ t. byte ∷ t) tail.spelled; first = All-cons (λ b. b ≢ 10) byte p.0 (eqb-false byte 10 feed) tail.first })

-- what is read as a line is one
pub line_takes : (bytes line rest : List ℕ) → line_at bytes ≡ Some (line, rest) → IsLine line bytes rest
unfolding line_at
line_takes [] line rest e = absurd (none-some _ e)
line_takes (byte ∷ bytes) line rest e = line_step byte bytes line rest (eqb byte 10) refl (line_takes bytes) e

spelled_again : (line rest : List ℕ) → Lacks line 10 → line_at (line ++ 10 ∷ rest) ≡ Some (line, rest)
unfolding line_at
spelled_again [] rest lacks = refl
spelled_again (b ∷ line) rest lacks =
    ap (λ t. cond t (Some ([], line ++ 10 ∷ rest)) (in_line b (line_at (line ++ 10 ∷ rest)))) (ne_eqb b 10 (All-head (λ x. x ≢ 10) b line lacks))
    ∙ ap (in_line b) (spelled_again line rest (All-tail (λ x. x ≢ 10) b line lacks))

-- a line is read as one
pub line_again : (bytes line rest : List ℕ) → IsLine line bytes rest → line_at bytes ≡ Some (line, rest)
line_again bytes line rest s = ap line_at s.spelled ∙ spelled_again line rest s.first

-- without a line feed there is none
pub line_none : (bytes : List ℕ) → Lacks bytes 10 → line_at bytes ≡ None
unfolding line_at
line_none [] lacks = refl
line_none (b ∷ bytes) lacks =
    ap (λ t. cond t (Some ([], bytes)) (in_line b (line_at bytes))) (ne_eqb b 10 (All-head (λ x. x ≢ 10) b bytes lacks))
    ∙ ap (in_line b) (line_none bytes (All-tail (λ x. x ≢ 10) b bytes lacks))

-- ---- a symbol

some_byte : (name : List ℕ) → has_byte name ≡ true → name ≢ []
some_byte [] h = absurd (true≢false (sym h))
some_byte (b ∷ name) h = λ none. absurd cc

byte_some : (name : List ℕ) → name ≢ [] → has_byte name ≡ true
byte_some [] h = absurd (h refl)
byte_some (b ∷ name) h = refl

abbrev made : ℕ → ℕ → List ℕ → Symbol
made letter index name = record { letter = letter; index = index; name = name }

-- what the symbol's fields are, and what is read
pub record Named (counts : Counts) (letter index : ℕ) (read : Option (List ℕ × List ℕ)) (symbol : Symbol) (rest : List ℕ) : Type 0 where
  pub name : List ℕ
  pub read_so : read ≡ Some (name, rest)
  pub is : made letter index name ≡ symbol
  pub low : index < count_of counts letter
  pub some : name ≢ []

named_test : (counts : Counts) (letter index : ℕ) (name : List ℕ × List ℕ) (symbol : Symbol) (rest : List ℕ) (t : Bool)
    → (ltb index (count_of counts letter) && has_byte name.0) ≡ t
    → cond {A = Option (Symbol × List ℕ)} t (Some (made letter index name.0, name.1)) None ≡ Some (symbol, rest) → Named counts letter index (Some name) symbol rest
named_test counts letter index name symbol rest true test e =
    let p = same_Some (made letter index name.0, name.1) (symbol, rest) e in
    let k = both (ltb index (count_of counts letter)) (has_byte name.0) test in
    record {
      name = name.0;
      read_so = ap (λ r. Some (name.0, r)) (ap (λ q. q.1) p);
      is = ap (λ q. q.0) p;
      low = ltb-true index (count_of counts letter) k.0;
      some = some_byte name.0 k.1;
    }
named_test counts letter index name symbol rest false test e = absurd (none-some _ e)

named_takes : (counts : Counts) (letter index : ℕ) (read : Option (List ℕ × List ℕ)) (symbol : Symbol) (rest : List ℕ)
    → named_at counts letter index read ≡ Some (symbol, rest) → Named counts letter index read symbol rest
unfolding named_at
named_takes counts letter index None symbol rest e = absurd (none-some _ e)
named_takes counts letter index (Some name) symbol rest e =
    named_test counts letter index name symbol rest (ltb index (count_of counts letter) && has_byte name.0) refl e

chosen_some : {A : Type 0} (t : Bool) (read : Option A) (y : A) → cond t read None ≡ Some y → (t ≡ true) × (read ≡ Some y)
chosen_some true read y e = (refl, e)
chosen_some false read y e = absurd (none-some _ e)

spaced_takes : (counts : Counts) (letter index : ℕ) (bytes : List ℕ) (symbol : Symbol) (rest : List ℕ)
    → spaced_at counts letter index bytes ≡ Some (symbol, rest)
    → (after : List ℕ) × (bytes ≡ 32 ∷ after) × Named counts letter index (line_at after) symbol rest
unfolding spaced_at
spaced_takes counts letter index [] symbol rest e = absurd (none-some _ e)
spaced_takes counts letter index (b ∷ bytes) symbol rest e =
    let p = chosen_some (eqb b 32) (named_at counts letter index (line_at bytes)) (symbol, rest) e in
    (bytes, ap (λ n. n ∷ bytes) (eqb-true b 32 p.0), named_takes counts letter index (line_at bytes) symbol rest p.1)

indexed_takes : (counts : Counts) (letter : ℕ) (read : Option (ℕ × List ℕ)) (symbol : Symbol) (rest : List ℕ)
    → indexed_at counts letter read ≡ Some (symbol, rest)
    → (index : ℕ × List ℕ) × (read ≡ Some index) × (spaced_at counts letter index.0 index.1 ≡ Some (symbol, rest))
unfolding indexed_at
indexed_takes counts letter None symbol rest e = absurd (none-some _ e)
indexed_takes counts letter (Some index) symbol rest e = (index, refl, e)

made_line : (counts : Counts) (letter index : ℕ) (bytes at_name name rest : List ℕ) → index < count_of counts letter → name ≢ []
    → IsNumeral MAX_NUMBER index bytes (32 ∷ at_name) → IsLine name at_name rest → FittingLine counts (made letter index name) (letter ∷ bytes) rest
made_line counts letter index bytes at_name name rest low some numeral line =
    (record { index = low; named = some }, (bytes, at_name, refl, numeral, line))

-- what is read as a symbol stands there
pub symbol_takes : (counts : Counts) (bytes : List ℕ) (symbol : Symbol) (rest : List ℕ) → symbol_at counts bytes ≡ Some (symbol, rest)
    → FittingLine counts symbol bytes rest
unfolding symbol_at
symbol_takes counts [] symbol rest e = absurd (none-some _ e)
symbol_takes counts (letter ∷ bytes) symbol rest e =
    let i = indexed_takes counts letter (number_at MAX_NUMBER bytes) symbol rest e in
    let s = spaced_takes counts letter i.0.0 i.0.1 symbol rest i.2 in
    let numeral = read_stands MAX_NUMBER i.0.0 bytes i.0.1 (lit< tt) i.1 in
    subst (λ q. FittingLine counts q (letter ∷ bytes) rest) s.2.is
    (made_line counts letter i.0.0 bytes s.0 s.2.name rest s.2.low s.2.some
    (subst (λ r. IsNumeral MAX_NUMBER i.0.0 bytes r) s.1 numeral) (line_takes s.0 s.2.name rest s.2.read_so))

tested_again : (counts : Counts) (letter index : ℕ) (name rest : List ℕ) → index < count_of counts letter → name ≢ []
    → named_at counts letter index (Some (name, rest)) ≡ Some (made letter index name, rest)
unfolding named_at
tested_again counts letter index name rest low some =
    ap (λ t. cond (t && has_byte name) (Some (made letter index name, rest)) None) (lt-ltb index (count_of counts letter) low)
    ∙ ap (λ t. cond t (Some (made letter index name, rest)) None) (byte_some name some)

-- what stands there is read
pub symbol_again : (counts : Counts) (bytes : List ℕ) (symbol : Symbol) (rest : List ℕ) → FittingLine counts symbol bytes rest
    → symbol_at counts bytes ≡ Some (symbol, rest)
unfolding symbol_at spaced_at indexed_at
symbol_again counts bytes symbol rest s =
    ap (symbol_at counts) s.1.2
    ∙ ap (indexed_at counts symbol.letter) (stands_read MAX_NUMBER symbol.index s.1.0 (32 ∷ s.1.1) (lit< tt) s.1.3)
    ∙ ap (named_at counts symbol.letter symbol.index) (line_again s.1.1 symbol.name rest s.1.4)
    ∙ tested_again counts symbol.letter symbol.index symbol.name rest s.0.index s.0.named

-- a symbol takes at least a byte
pub symbol_shorter : (symbol : Symbol) (bytes rest : List ℕ) → SymbolLine symbol bytes rest → length rest < length bytes
symbol_shorter symbol bytes rest s =
    let a : length bytes ≡ suc (length s.0) = ap length s.2 in
    let b : length s.0 ≡ length (decimal symbol.index) + suc (length s.1) = ap length s.3.spelled ∙ length-append (decimal symbol.index) (32 ∷ s.1) in
    let d : length s.1 ≡ length symbol.name + suc (length rest) = ap length s.4.spelled ∙ length-append symbol.name (10 ∷ rest) in
    omega (arith, a, b, d)

in_range_digit : (b : ℕ) → IsInRange 48 57 b → is_digit b ≡ true
in_range_digit b h i = (le-leb 48 b h.0 i && le-leb b 57 h.1 i)

digits_begin : (digits rest : List ℕ) → AllDigits 10 digits → 0 < length digits → begins_with_digit (digits ++ rest) ≡ true
digits_begin [] rest all some = absurd (omega arith)
digits_begin (d ∷ digits) rest all some = in_range_digit d (digit_from_value d all.0)

-- where a symbol stands, the symbols do not end
pub symbol_goes_on : (symbol : Symbol) (bytes rest : List ℕ) → SymbolLine symbol bytes rest → ends_symbols bytes ≡ false
symbol_goes_on symbol bytes rest s =
    let small : symbol.index < 2 ^ 64 = omega (arith, s.3.small) in
    let digit : begins_with_digit s.0 ≡ true =
    ap begins_with_digit s.3.spelled
    ∙ digits_begin (decimal symbol.index) (32 ∷ s.1) (decimal_is_IsNumeral symbol.index small).0.1 (decimal_nonempty symbol.index small) in
    ap ends_symbols s.2 ∙ ap (λ t. eqb symbol.letter 99 && not t) digit ∙ and-false (eqb symbol.letter 99)
