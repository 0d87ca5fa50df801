-- The values of a dump, read back.
use Rattle.std.proofs.Common.{◌≡◌, ◌≢◌, ℕ, zero, suc, ◌+◌, ◌*◌, ◌<◌, ◌^◌, Bool, true, false, List, [], ◌∷◌, ◌++◌, length, map, get_or, refl, sym, ap, ◌∙◌, arith, if◌then◌else◌, append_assoc, None, Some, option_map, slice_get}
use Rattle.std.specs.Prelude.{nat_le, decimal, codes}
use Rattle.std.specs.List.{AllPairs}
use Rattle.std.specs.Str.{bytes_eq}
use Rattle.std.proofs.lemmas.Bool.{false≢true, false_from_ne_true, le-ltb}
use Rattle.std.proofs.lemmas.Fmt.{decimal_injective}
use Rattle.std.proofs.lemmas.Slice.Eq.{bytes_eq-Decides}
use Rattle.text_grammar.proofs.LineLaws.{reads_written_lines}
use Rattle.aig_semantics.specs.Circuits.{Circuit}
use Rattle.aig_semantics.specs.declared.traces.Position.{Position}
use Rattle.aig_semantics.specs.Runs.{valuation_at}
use Rattle.waves.specs.declared.wires.Wire.{Wire}
use Rattle.waves.specs.declared.signals.Signal.{Signal}
use Rattle.waves.specs.Wires.{value_in}
use Rattle.waves.specs.Signals.{signals_of}
use Rattle.waves.specs.Dumps.{var_line, header_lines, time_line, digit_of, digits_of, word_of, value_line, run_lines, all_lines, dump_lines, unrolled}
use Rattle.waves.specs.Laws.{lines_behind, is_time, with_digit, word_read, change_in, or_later, first_change, ValuesAreRead}
use Rattle.waves.proofs.Apart.{identifiers_are_apart}
use Rattle.waves.proofs.Spelled.{signals_spelled, dump_are_lines}
use Rattle.waves.proofs.WidthLaws.{HaveWires, have_wires}

-- ---- the lines of a position

same_text : (xs ys : List ℕ) → xs ≡ ys → bytes_eq xs ys ≡ true
same_text xs ys e = (bytes_eq-Decides xs ys).1 e

other_text : (xs ys : List ℕ) → (xs ≡ ys → ⊥) → bytes_eq xs ys ≡ false
other_text xs ys apart = false_from_ne_true (bytes_eq xs ys) (λ e. apart ((bytes_eq-Decides xs ys).0 e))

tail_of : List ℕ → List ℕ
tail_of [] = []
tail_of (x ∷ xs) = xs

same_tail : (x y : ℕ) (xs ys : List ℕ) → x ∷ xs ≡ y ∷ ys → xs ≡ ys
unfolding tail_of
same_tail x y xs ys e = ap tail_of e

-- the digits of wires, a space and an identifier are read as the values
word_back : (values : List Bool) (looping : Bool) (wires : List Wire) (code : List ℕ)
    → word_read code (digits_of values looping wires ++ 32 ∷ code) ≡ Some (map (value_in values looping) wires)
word_back values looping [] code = ap (λ t. if t then Some [] else None) (same_text code code refl)
word_back values looping (w ∷ wires) code = by (value_in values looping w) (word_back values looping wires code)
  where
    later : List ℕ
    later = digits_of values looping wires ++ 32 ∷ code

    by : (b : Bool) → word_read code later ≡ Some (map (value_in values looping) wires)
        → word_read code (digit_of b ∷ later) ≡ Some (b ∷ map (value_in values looping) wires)
    by true h = ap (option_map (λ vs. true ∷ vs)) h
    by false h = ap (option_map (λ vs. false ∷ vs)) h

word_other : (values : List Bool) (looping : Bool) (wires : List Wire) (other code : List ℕ) → other ≢ code
    → word_read code (digits_of values looping wires ++ 32 ∷ other) ≡ None
word_other values looping [] other code apart = ap (λ t. if t then Some [] else None) (other_text other code apart)
word_other values looping (w ∷ wires) other code apart = by (value_in values looping w) (word_other values looping wires other code apart)
  where
    later : List ℕ
    later = digits_of values looping wires ++ 32 ∷ other

    by : (b : Bool) → word_read code later ≡ None → word_read code (digit_of b ∷ later) ≡ None
    by true h = ap (option_map (λ vs. true ∷ vs)) h
    by false h = ap (option_map (λ vs. false ∷ vs)) h

one_back : (b : Bool) (code : List ℕ) → change_in code (digit_of b ∷ code) ≡ Some (b ∷ [])
one_back true code = ap (λ t. if t then with_digit 49 (Some []) else None) (same_text code code refl)
one_back false code = ap (λ t. if t then with_digit 48 (Some []) else None) (same_text code code refl)

one_other : (b : Bool) (other code : List ℕ) → other ≢ code → change_in code (digit_of b ∷ other) ≡ None
one_other true other code apart = ap (λ t. if t then with_digit 49 (Some []) else None) (other_text other code apart)
one_other false other code apart = ap (λ t. if t then with_digit 48 (Some []) else None) (other_text other code apart)

-- the text of the value of a bus
bus_word : (values : List Bool) (looping : Bool) (w v : Wire) (wires : List Wire)
    → word_of values looping (w ∷ v ∷ wires) ≡ 98 ∷ (digits_of values looping (w ∷ v ∷ wires) ++ 32 ∷ [])
bus_word values looping w v wires =
    ap (λ t. if t then digits_of values looping (w ∷ v ∷ wires) else 98 ∷ (digits_of values looping (w ∷ v ∷ wires) ++ 32 ∷ []))
    (le-ltb (length (w ∷ v ∷ wires)) 2 (omega arith))

-- the line of a signal gives its values, and none to another
change_back : (values : List Bool) (looping : Bool) (wires : List Wire) (code : List ℕ) → 0 < length wires
    → change_in code (word_of values looping wires ++ code) ≡ Some (map (value_in values looping) wires)
change_back values looping [] code some = absurd (omega (arith, some))
change_back values looping (w ∷ []) code some = one_back (value_in values looping w) code
change_back values looping (w ∷ v ∷ wires) code some =
    ap (λ (x : List ℕ). change_in code (x ++ code)) (bus_word values looping w v wires)
    ∙ ap (word_read code) (append_assoc (digits_of values looping (w ∷ v ∷ wires)) (32 ∷ []) code)
    ∙ word_back values looping (w ∷ v ∷ wires) code

change_other : (values : List Bool) (looping : Bool) (wires : List Wire) (other code : List ℕ) → 0 < length wires → other ≢ code
    → change_in code (word_of values looping wires ++ other) ≡ None
change_other values looping [] other code some apart = absurd (omega (arith, some))
change_other values looping (w ∷ []) other code some apart = one_other (value_in values looping w) other code apart
change_other values looping (w ∷ v ∷ wires) other code some apart =
    ap (λ (x : List ℕ). change_in code (x ++ other)) (bus_word values looping w v wires)
    ∙ ap (word_read code) (append_assoc (digits_of values looping (w ∷ v ∷ wires)) (32 ∷ []) other)
    ∙ word_other values looping (w ∷ v ∷ wires) other code apart

-- a value is no time
not_time : (values : List Bool) (looping : Bool) (wires : List Wire) (code : List ℕ) → 0 < length wires → is_time (word_of values looping wires ++ code) ≡ false
not_time values looping [] code some = absurd (omega (arith, some))
not_time values looping (w ∷ []) code some = by (value_in values looping w)
  where
    by : (b : Bool) → is_time (digit_of b ∷ code) ≡ false
    by true = refl
    by false = refl
not_time values looping (w ∷ v ∷ wires) code some = ap (λ (x : List ℕ). is_time (x ++ code)) (bus_word values looping w v wires)

-- the first change is the line's own, or one behind it
change_here : (values : List Bool) (looping : Bool) (s : Signal) (lines : List (List ℕ)) → 0 < length s.wires
    → first_change s.code (value_line values looping s ∷ lines) ≡ Some (map (value_in values looping) s.wires)
change_here values looping s lines some =
    ap (λ o. or_later o (if is_time (value_line values looping s) then None else first_change s.code lines)) (change_back values looping s.wires s.code some)

change_behind : (values : List Bool) (looping : Bool) (s : Signal) (code : List ℕ) (lines : List (List ℕ)) → 0 < length s.wires → s.code ≢ code
    → first_change code (value_line values looping s ∷ lines) ≡ first_change code lines
change_behind values looping s code lines some apart =
    ap (λ o. or_later o (if is_time (value_line values looping s) then None else first_change code lines)) (change_other values looping s.wires s.code code some apart)
    ∙ ap (λ t. if t then None else first_change code lines) (not_time values looping s.wires s.code some)

abbrev CodesApart : List Signal → Type 0
CodesApart signals = AllPairs (λ (a b : Signal). a.code ≢ b.code) signals

codes_behind : (x : Signal) (signals : List Signal) → CodesApart (x ∷ signals) → CodesApart signals
codes_behind x signals h i j d less inside = h (suc i) (suc j) d (omega (arith, less)) (omega (arith, inside))

same_signal : (a b : Signal) → ◌≡◌ {A = _} (Some a) (Some b) → a ≡ b
same_signal a b e = cc

get_within : (signals : List Signal) (k : ℕ) (s d : Signal) → slice_get signals k ≡ Some s → (k < length signals) × (get_or signals k d ≡ s)
get_within [] k s d e = absurd (cc e)
get_within (x ∷ signals) zero s d e = (omega arith, same_signal x s e)
get_within (x ∷ signals) (suc k) s d e = let h = get_within signals k s d e in (omega (arith, h.0), h.1)

value_found : (values : List Bool) (looping : Bool) (signals : List Signal) (rest : List (List ℕ)) (k : ℕ) (s : Signal) → HaveWires signals → CodesApart signals
    → slice_get signals k ≡ Some s → first_change s.code (map (value_line values looping) signals ++ rest) ≡ Some (map (value_in values looping) s.wires)
unfolding HaveWires
value_found values looping [] rest k s some h e = absurd (cc e)
value_found values looping (x ∷ signals) rest zero s some h e =
    let later : List (List ℕ) = map (value_line values looping) signals ++ rest in
    ap (λ (y : Signal). first_change y.code (value_line values looping x ∷ later)) (sym (same_signal x s e))
    ∙ change_here values looping x later some.0
    ∙ ap (λ (y : Signal). Some (map (value_in values looping) y.wires)) (same_signal x s e)
value_found values looping (x ∷ signals) rest (suc k) s some h e =
    let at = get_within signals k s x e in
    let apart : x.code ≢ s.code = λ same. h 0 (suc k) x (omega arith) (omega (arith, at.0)) (same ∙ ap (λ (y : Signal). y.code) (sym at.1)) in
    change_behind values looping x s.code (map (value_line values looping) signals ++ rest) some.0 apart
    ∙ value_found values looping signals rest k s some.1 (codes_behind x signals h) e

-- ---- the lines behind a time

SkipsAll : List ℕ → List (List ℕ) → Type 0
SkipsAll line [] = Unit {0}
SkipsAll line (first ∷ lines) = (bytes_eq first line ≡ false) × SkipsAll line lines

skip : (line : List ℕ) (front rest : List (List ℕ)) → SkipsAll line front → lines_behind line (front ++ rest) ≡ lines_behind line rest
unfolding SkipsAll
skip line [] rest h = refl
skip line (first ∷ front) rest h = ap (λ t. if t then front ++ rest else lines_behind line (front ++ rest)) h.0 ∙ skip line front rest h.1

skips_both : (line : List ℕ) (a b : List (List ℕ)) → SkipsAll line a → SkipsAll line b → SkipsAll line (a ++ b)
unfolding SkipsAll
skips_both line [] b h k = k
skips_both line (x ∷ a) b h k = (h.0, skips_both line a b h.1 k)

skips_values : (t : ℕ) (values : List Bool) (looping : Bool) (signals : List Signal) → HaveWires signals → SkipsAll (time_line t) (map (value_line values looping) signals)
unfolding SkipsAll HaveWires
skips_values t values looping [] some = tt
skips_values t values looping (s ∷ signals) some =
    (other_line s some.0, skips_values t values looping signals some.1)
  where
    other_line : (s : Signal) → 0 < length s.wires → bytes_eq (value_line values looping s) (time_line t) ≡ false
    other_line s more =
        other_text (value_line values looping s) (time_line t)
        (λ e. false≢true (sym (not_time values looping s.wires s.code more) ∙ ap is_time e))

skips_vars : (t : ℕ) (signals : List Signal) → SkipsAll (time_line t) (map var_line signals)
unfolding SkipsAll
skips_vars t [] = tt
skips_vars t (s ∷ signals) = (refl, skips_vars t signals)

skips_header : (t j : ℕ) (signals : List Signal) → SkipsAll (time_line t) (header_lines j signals)
unfolding SkipsAll
skips_header t j signals =
    (refl, (refl, (refl, skips_both (time_line t) (map var_line signals) (codes "$upscope $end" ∷ codes "$enddefinitions $end" ∷ []) (skips_vars t signals) (refl, (refl, tt)))))

other_time : (t u : ℕ) → 10 * t < 2 ^ 64 → 10 * u < 2 ^ 64 → t < u → bytes_eq (time_line t) (time_line u) ≡ false
other_time t u small large less =
    other_text (time_line t) (time_line u) (λ e. (let same : 10 * t ≡ 10 * u = decimal_injective (10 * t) (10 * u) small large (same_tail 35 35 (decimal (10 * t)) (decimal (10 * u)) e) in
    omega (arith, less, same)))

same_position : (p q : Position) → ◌≡◌ {A = _} (Some p) (Some q) → p ≡ q
same_position p q e = cc

-- behind the time of a position are its values
position_behind : (c : Circuit) (from : ℕ) (signals : List Signal) (start i u : ℕ) (run : List Position) (p : Position) (rest : List (List ℕ)) → HaveWires signals → u ≡ start + i → 10 * u < 2 ^ 64
    → slice_get run i ≡ Some p
    → (more : List (List ℕ)) × (lines_behind (time_line u) (run_lines c from signals start run ++ rest) ≡ map (value_line (valuation_at c p) (nat_le from u)) signals ++ more)
position_behind c from signals start i u [] p rest some at small e = absurd (cc e)
position_behind c from signals start zero u (q ∷ run) p rest some at small e =
    let same : start ≡ u = omega (arith, at) in
    let here = map (value_line (valuation_at c q) (nat_le from start)) signals in
    let more : List (List ℕ) = run_lines c from signals (start + 1) run ++ rest in (
      more,
      ap (λ t. if t then (here ++ run_lines c from signals (start + 1) run) ++ rest else lines_behind (time_line u) ((here ++ run_lines c from signals (start + 1) run) ++ rest))
          (same_text (time_line start) (time_line u) (ap time_line same))
          ∙ append_assoc here (run_lines c from signals (start + 1) run) rest
          ∙ ap (λ (x : Position). map (value_line (valuation_at c x) (nat_le from start)) signals ++ more) (same_position q p e)
          ∙ ap (λ n. map (value_line (valuation_at c p) (nat_le from n)) signals ++ more) same,
    )
position_behind c from signals start (suc i) u (q ∷ run) p rest some at small e =
    let here : List (List ℕ) = map (value_line (valuation_at c q) (nat_le from start)) signals in
    let later : List (List ℕ) = run_lines c from signals (start + 1) run in
    let found = position_behind c from signals (start + 1) i u run p rest some (omega (arith, at)) small e in (
      found.0,
      ap (λ t. if t then (here ++ later) ++ rest else lines_behind (time_line u) ((here ++ later) ++ rest)) (other_time start u (omega (arith, at, small)) small (omega (arith, at)))
          ∙ ap (lines_behind (time_line u)) (append_assoc here later rest)
          ∙ skip (time_line u) here (later ++ rest) (skips_values u (valuation_at c q) (nat_le from start) signals some)
          ∙ found.1,
    )

inside_run : (run : List Position) (t : ℕ) (p : Position) → slice_get run t ≡ Some p → t < length run
inside_run [] t p e = absurd (cc e)
inside_run (q ∷ run) zero p e = omega arith
inside_run (q ∷ run) (suc t) p e = let h = inside_run run t p e in omega (arith, h)

pub values_are_read : ValuesAreRead
values_are_read m j lasso k t s p small at_k at_t =
    let c = m.circuit in
    let signals : List Signal = signals_of m j in
    let run : List Position = unrolled c lasso in
    let lines : List (List ℕ) = dump_lines c j signals lasso in
    let last : List (List ℕ) = time_line (length run) ∷ [] in
    let found = position_behind c lasso.from signals 0 t t run p last (have_wires m j) (omega arith) (let h = inside_run run t p at_t in omega (arith, h, small)) at_t in
    ap (λ (ls : List (List ℕ)). first_change s.code (lines_behind (time_line t) ls)) (reads_written_lines lines (dump_are_lines c j signals lasso (signals_spelled m j)))
    ∙ ap (first_change s.code) (skip (time_line t) (header_lines j signals) (all_lines c lasso.from signals run) (skips_header t j signals) ∙ found.1)
    ∙ value_found (valuation_at c p) (nat_le lasso.from t) signals found.0 k s (have_wires m j) (identifiers_are_apart m j) at_k
