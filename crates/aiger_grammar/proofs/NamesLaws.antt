-- The laws of symbols and the comment behind them.
use Rattle.std.proofs.Common.{◌≡◌, ℕ, zero, suc, ◌≤◌, Bool, true, false, not, cond, eqb, List, [], ◌∷◌, length, Option, Some, None, IfSome, Result, Ok, Err, refl, sym, ap, subst, ◌∙◌, arith, true≢false}
use Rattle.std.proofs.lemmas.Bool.{eqb-true}
use Rattle.std.proofs.lemmas.List.{append-nil}
use Rattle.std.proofs.lemmas.Option.{none-some}
use Rattle.text_grammar.specs.Numerals.{begins_with_digit}
use Rattle.text_grammar.proofs.NumeralLaws.{both}
use Rattle.circuit.specs.declared.faults.ModelFault.{ModelFault}
use Rattle.aiger_grammar.specs.declared.names.Symbol.{Symbol}
use Rattle.aiger_grammar.specs.declared.names.Names.{Names}
use Rattle.aiger_grammar.specs.declared.names.Counts.{Counts}
use Rattle.aiger_grammar.specs.Lines.{LinesOf, CommentAtEnd}
use Rattle.aiger_grammar.specs.Names.{FittingLine, ends_symbols, AreNames, fault_at, HasNamesFault, symbol_at, in_front, and_others, symbols_at, comment_at, and_comment, names_at, ReadsNames, ReadsFirstFault}
use Rattle.aiger_grammar.proofs.Symbols.{symbol_takes, symbol_again, symbol_shorter, symbol_goes_on}

abbrev Read : Type 0
Read = Result (List Symbol × List ℕ) ModelFault

-- what a reading of symbols tells of the bytes
abbrev Tells : Counts → ℕ → List ℕ → Read → Type 0
Tells counts total bytes (Ok read) = LinesOf (FittingLine counts) read.0 bytes read.1 × (ends_symbols read.1 ≡ true)
Tells counts total bytes (Err fault) = HasNamesFault counts total bytes fault

more_tell : (counts : Counts) (total : ℕ) (bytes mid : List ℕ) (symbol : Symbol) (read : Read) → FittingLine counts symbol bytes mid
    → Tells counts total mid read → Tells counts total bytes (in_front (symbol ∷ []) read)
more_tell counts total bytes mid symbol (Ok read) line told = ((mid, line, told.0), told.1)
more_tell counts total bytes mid symbol (Err fault) line told = record {
  symbols = symbol ∷ told.symbols;
  behind = told.behind;
  before = (mid, line, told.before);
  goes_on = told.goes_on;
  no_symbol = told.no_symbol;
  is = told.is;
}

none_tell : (counts : Counts) (total : ℕ) (bytes : List ℕ) → ends_symbols bytes ≡ false → symbol_at counts bytes ≡ None
    → HasNamesFault counts total bytes (fault_at total bytes)
none_tell counts total bytes on none = record {
  symbols = [];
  behind = bytes;
  before = refl;
  goes_on = on;
  no_symbol = λ symbol rest stands. none-some _ (sym none ∙ symbol_again counts bytes symbol rest stands);
  is = refl;
}

empty_ends : (bytes : List ℕ) → length bytes ≤ 0 → ends_symbols bytes ≡ true
empty_ends [] short = refl
empty_ends (b ∷ bytes) short = absurd (omega arith)

others_tell : (most : ℕ) (counts : Counts) (total : ℕ) (bytes : List ℕ) (read : Option (Symbol × List ℕ)) → length bytes ≤ suc most → ends_symbols bytes ≡ false
    → symbol_at counts bytes ≡ read → ((rest : List ℕ) → length rest ≤ most → Tells counts total rest (symbols_at most counts total rest))
    → Tells counts total bytes (and_others read (fault_at total bytes) (λ rest. symbols_at most counts total rest))
others_tell most counts total bytes None short on none more = none_tell counts total bytes on none
others_tell most counts total bytes (Some first) short on some more =
    let line = symbol_takes counts bytes first.0 first.1 some in
    let low : length first.1 ≤ most = omega (arith, symbol_shorter first.0 bytes first.1 line.1) in
    more_tell counts total bytes first.1 first.0 (symbols_at most counts total first.1) line (more first.1 low)

step_tell : (most : ℕ) (counts : Counts) (total : ℕ) (bytes : List ℕ) (ends : Bool) → length bytes ≤ suc most → ends_symbols bytes ≡ ends
    → ((rest : List ℕ) → length rest ≤ most → Tells counts total rest (symbols_at most counts total rest))
    → Tells counts total bytes (cond ends (Ok ([], bytes)) (and_others (symbol_at counts bytes) (fault_at total bytes) (λ rest. symbols_at most counts total rest)))
step_tell most counts total bytes true short is more = (refl, is)
step_tell most counts total bytes false short is more = others_tell most counts total bytes (symbol_at counts bytes) short is refl more

symbols_tell : (most : ℕ) (counts : Counts) (total : ℕ) (bytes : List ℕ) → length bytes ≤ most → Tells counts total bytes (symbols_at most counts total bytes)
unfolding symbols_at
symbols_tell zero counts total bytes short = (refl, empty_ends bytes short)
symbols_tell (suc most) counts total bytes short =
    step_tell most counts total bytes (ends_symbols bytes) short refl (λ rest low. symbols_tell most counts total rest low)

-- ---- what stands there is read

joined_front : (symbol : Symbol) (symbols : List Symbol) (read : Read) → in_front (symbol ∷ []) (in_front symbols read) ≡ in_front (symbol ∷ symbols) read
joined_front symbol symbols (Ok read) = refl
joined_front symbol symbols (Err fault) = refl

no_front : (read : Read) → in_front [] read ≡ read
no_front (Ok read) = refl
no_front (Err fault) = refl

-- behind symbols that stand there, the reading goes on with as many as are left
abbrev GoesOn : ℕ → Counts → ℕ → List ℕ → List Symbol → List ℕ → Type 0
GoesOn most counts total bytes symbols behind =
    (left : ℕ) × (length behind ≤ left) × (symbols_at most counts total bytes ≡ in_front symbols (symbols_at left counts total behind))

one_more : (most : ℕ) (counts : Counts) (total : ℕ) (bytes mid : List ℕ) (symbol : Symbol) → FittingLine counts symbol bytes mid
    → symbols_at (suc most) counts total bytes ≡ in_front (symbol ∷ []) (symbols_at most counts total mid)
unfolding symbols_at
one_more most counts total bytes mid symbol line =
    ap (λ t. cond t (Ok ([], bytes)) (and_others (symbol_at counts bytes) (fault_at total bytes) (λ rest. symbols_at most counts total rest)))
    (symbol_goes_on symbol bytes mid line.1)
    ∙ ap (λ read. and_others read (fault_at total bytes) (λ rest. symbols_at most counts total rest)) (symbol_again counts bytes symbol mid line)

goes_through : (most : ℕ) (counts : Counts) (total : ℕ) (bytes : List ℕ) (symbols : List Symbol) (behind : List ℕ) → length bytes ≤ most
    → LinesOf (FittingLine counts) symbols bytes behind → GoesOn most counts total bytes symbols behind
goes_through most counts total bytes [] behind short s =
    (most, subst (λ b. length b ≤ most) s short, ap (symbols_at most counts total) s ∙ sym (no_front (symbols_at most counts total behind)))
goes_through zero counts total bytes (symbol ∷ symbols) behind short s =
    absurd (omega (arith, symbol_shorter symbol bytes s.0 s.1.1))
goes_through (suc most) counts total bytes (symbol ∷ symbols) behind short s =
    let low : length s.0 ≤ most = omega (arith, symbol_shorter symbol bytes s.0 s.1.1) in
    let more = goes_through most counts total s.0 symbols behind low s.2 in (
      more.0,
      more.1,
      one_more most counts total bytes s.0 symbol s.1
          ∙ ap (in_front (symbol ∷ [])) more.2
          ∙ joined_front symbol symbols (symbols_at more.0 counts total behind),
    )

at_end : (most : ℕ) (counts : Counts) (total : ℕ) (bytes : List ℕ) → ends_symbols bytes ≡ true → symbols_at most counts total bytes ≡ Ok ([], bytes)
unfolding symbols_at
at_end zero counts total bytes is = refl
at_end (suc most) counts total bytes is =
    ap (λ t. cond t (Ok ([], bytes)) (and_others (symbol_at counts bytes) (fault_at total bytes) (λ rest. symbols_at most counts total rest))) is

no_symbol_at : (counts : Counts) (bytes : List ℕ) (read : Option (Symbol × List ℕ)) → symbol_at counts bytes ≡ read
    → ((symbol : Symbol) (rest : List ℕ) → FittingLine counts symbol bytes rest → ⊥) → read ≡ None
no_symbol_at counts bytes None e none = refl
no_symbol_at counts bytes (Some x) e none = absurd (none x.0 x.1 (symbol_takes counts bytes x.0 x.1 e))

at_fault : (most : ℕ) (counts : Counts) (total : ℕ) (bytes : List ℕ) → length bytes ≤ most → ends_symbols bytes ≡ false
    → ((symbol : Symbol) (rest : List ℕ) → FittingLine counts symbol bytes rest → ⊥) → symbols_at most counts total bytes ≡ Err (fault_at total bytes)
unfolding symbols_at
at_fault zero counts total bytes short on none = absurd (true≢false (sym (empty_ends bytes short) ∙ on))
at_fault (suc most) counts total bytes short on none =
    ap (λ t. cond t (Ok ([], bytes)) (and_others (symbol_at counts bytes) (fault_at total bytes) (λ rest. symbols_at most counts total rest))) on
    ∙ ap (λ read. and_others read (fault_at total bytes) (λ rest. symbols_at most counts total rest)) (no_symbol_at counts bytes (symbol_at counts bytes) refl none)

-- ---- the comment

turned : (t : Bool) → not t ≡ true → t ≡ false
turned true h = absurd (true≢false (sym h))
turned false h = refl

comment_takes : (bytes : List ℕ) → ends_symbols bytes ≡ true → CommentAtEnd (comment_at bytes) bytes × IfSome (comment_at bytes) (λ text. begins_with_digit text ≡ false)
comment_takes [] ends = (refl, tt)
comment_takes (b ∷ text) ends =
    let p = both (eqb b 99) (not (begins_with_digit text)) ends in
    (ap (λ x. x ∷ text) (eqb-true b 99 p.0), turned (begins_with_digit text) p.1)

comment_again : (comment : Option (List ℕ)) (bytes : List ℕ) → CommentAtEnd comment bytes → IfSome comment (λ text. begins_with_digit text ≡ false)
    → (ends_symbols bytes ≡ true) × (comment_at bytes ≡ comment)
comment_again None bytes at no_digit = (ap ends_symbols at, ap comment_at at)
comment_again (Some text) bytes at no_digit = (ap ends_symbols at ∙ ap not no_digit, ap comment_at at)

-- ---- all of it

abbrev TellsNames : Counts → ℕ → List ℕ → Result Names ModelFault → Type 0
TellsNames counts total bytes (Ok names) = AreNames counts names bytes
TellsNames counts total bytes (Err fault) = HasNamesFault counts total bytes fault

with_comment_tell : (counts : Counts) (total : ℕ) (bytes : List ℕ) (read : Read) → Tells counts total bytes read → TellsNames counts total bytes (and_comment read)
with_comment_tell counts total bytes (Ok read) told =
    let c = comment_takes read.1 told.1 in
    record { at_comment = read.1; symbols = told.0; comment = c.0; no_digit = c.1 }
with_comment_tell counts total bytes (Err fault) told = told

pub names_tell : (counts : Counts) (total : ℕ) (bytes : List ℕ) → TellsNames counts total bytes (names_at counts total bytes)
unfolding names_at
names_tell counts total bytes = with_comment_tell counts total bytes (symbols_at (length bytes) counts total bytes) (symbols_tell (length bytes) counts total bytes (omega arith))

symbols_end : (symbols : List Symbol) (behind : List ℕ) (read : Read) → read ≡ Ok ([], behind) → in_front symbols read ≡ Ok (symbols, behind)
symbols_end symbols behind read e = ap (in_front symbols) e ∙ ap (λ s. Ok (s, behind)) (append-nil symbols)

names_again : (counts : Counts) (total : ℕ) (names : Names) (bytes : List ℕ) → AreNames counts names bytes → names_at counts total bytes ≡ Ok names
unfolding names_at
names_again counts total names bytes s =
    let c = comment_again names.comment s.at_comment s.comment s.no_digit in
    let through = goes_through (length bytes) counts total bytes names.symbols s.at_comment (omega arith) s.symbols in
    ap and_comment (through.2 ∙ symbols_end names.symbols s.at_comment _ (at_end through.0 counts total s.at_comment c.0))
    ∙ ap (λ text. Ok (record { symbols = names.symbols; comment = text })) c.1

fault_again : (counts : Counts) (total : ℕ) (fault : ModelFault) (bytes : List ℕ) → HasNamesFault counts total bytes fault → names_at counts total bytes ≡ Err fault
unfolding names_at
fault_again counts total fault bytes s =
    let through = goes_through (length bytes) counts total bytes s.symbols s.behind (omega arith) s.before in
    ap and_comment (through.2 ∙ ap (in_front s.symbols) (at_fault through.0 counts total s.behind through.1 s.goes_on s.no_symbol))
    ∙ ap (λ f. Err f) (sym s.is)

pub reads_names : ReadsNames
reads_names counts total names bytes =
    (λ e. subst (TellsNames counts total bytes) e (names_tell counts total bytes), names_again counts total names bytes)

pub reads_first_fault : ReadsFirstFault
reads_first_fault counts total fault bytes =
    (λ e. subst (TellsNames counts total bytes) e (names_tell counts total bytes), fault_again counts total fault bytes)
