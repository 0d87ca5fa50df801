-- The laws of numbers in decimal.
use Rattle.std.proofs.Common.{◌≡◌, ◌≢◌, ℕ, ◌<◌, ◌≤◌, ◌^◌, Bool, true, false, not, ◌&&◌, cond, leb, List, [], ◌∷◌, ◌++◌, length, get_or, drop, Option, Some, None, refl, ap, sym, ◌∙◌, subst, true≢false, inl, inr, eq-zero-or-pos, arith}
use Rattle.std.specs.Prelude.{decimal, take_while}
use Rattle.std.specs.Int.{IsInRange}
use Rattle.std.specs.Str.Parse.{AllDigits, digits_value}
use Rattle.std.proofs.lemmas.Bool.{ne_eqb, eq-eqb, le-leb, leb-true, lt-leb}
use Rattle.std.proofs.Math.Bool.{and-false}
use Rattle.std.proofs.lemmas.Option.{cond_some, same_Some, none-some}
use Rattle.std.proofs.lemmas.Str.{digit_value_digit}
use Rattle.std.proofs.lemmas.Str.Parse.{numerals_by_value, tells_digits, digit_from_value}
use Rattle.std.proofs.lemmas.Fmt.{decimal_is_IsNumeral, decimal_digit, decimal_nonempty, first_decimal, decimal-digits_value}
use Rattle.std.proofs.lemmas.List.Elements.{All-nil, All-cons}
use Rattle.std.proofs.lemmas.List.Prefix.{front_rest}
use Rattle.std.proofs.lemmas.List.Sums.{take_while-cons}
use Rattle.text_grammar.specs.Pieces.{Lacks}
use Rattle.text_grammar.specs.Numerals.{IsNumeral, is_digit, begins_with_digit, is_plain, number_at}
use Rattle.text_grammar.specs.Laws.{ReadsNumerals, HasOneNumeral}

-- two tests that pass together pass each
pub both : (s t : Bool) → (s && t) ≡ true → (s ≡ true) × (t ≡ true)
both true t h = (refl, h)
both false t h = absurd (true≢false (sym h))

pub digit_in_range : (b : ℕ) → is_digit b ≡ true → IsInRange 48 57 b
digit_in_range b is = let k = both (leb 48 b) (leb b 57) is in (leb-true 48 b k.0, leb-true b 57 k.1)

digit_from_range : (b : ℕ) → IsInRange 48 57 b → is_digit b ≡ true
digit_from_range b h i = (le-leb 48 b h.0 i && le-leb b 57 h.1 i)

-- digits are the front of a text that goes on with no digit
abbrev pub IsFront : List ℕ → List ℕ → Type 0
IsFront digits bytes =
    AllDigits 10 digits × (bytes ≡ digits ++ drop (length digits) bytes) × (begins_with_digit (drop (length digits) bytes) ≡ false)

-- one more digit in front of such digits
more_front : (b : ℕ) (bytes digits : List ℕ) (test : Bool) → is_digit b ≡ test → IsFront digits bytes → IsFront (cond test (b ∷ digits) []) (b ∷ bytes)
more_front b bytes digits true is front =
    ((omega (arith, digit_value_digit b (digit_in_range b is), digit_in_range b is), front.0), ap (λ t. b ∷ t) front.1, front.2)
more_front b bytes digits false is front = (tt, refl, is)

pub front_is : (bytes : List ℕ) → IsFront (take_while is_digit bytes) bytes
front_is [] = (tt, refl, refl)
front_is (b ∷ bytes) =
    let P : List ℕ → Type 0 = λ ds. IsFront ds (b ∷ bytes) in
    subst P (sym (take_while-cons is_digit b bytes)) (more_front b bytes (take_while is_digit bytes) (is_digit b) refl (front_is bytes))

-- digits that no digit follows are all of the front
front_of : (digits rest : List ℕ) → AllDigits 10 digits → begins_with_digit rest ≡ false → take_while is_digit (digits ++ rest) ≡ digits
front_of [] [] all stop = refl
front_of [] (b ∷ bytes) all stop = take_while-cons is_digit b bytes ∙ ap (λ t. cond t (b ∷ take_while is_digit bytes) []) stop
front_of (d ∷ digits) rest all stop =
    take_while-cons is_digit d (digits ++ rest)
    ∙ ap (λ t. cond t (d ∷ take_while is_digit (digits ++ rest)) []) (digit_from_range d (digit_from_value d all.0))
    ∙ ap (λ ds. d ∷ ds) (front_of digits rest all.1 stop)

-- plain digits are not empty, and have a 0 in front only where they are that 0
plain_tells : (digits : List ℕ) → is_plain digits ≡ true → (0 < length digits) × (get_or digits 0 0 ≡ 48 → length digits ≡ 1)
plain_tells [] plain = absurd (true≢false (sym plain))
plain_tells (d ∷ []) plain = (omega arith, λ _. refl)
plain_tells (d ∷ e ∷ ds) plain = (omega arith, λ zero. absurd (true≢false (sym plain ∙ ap not (eq-eqb d 48 zero))))

plain_from_first : (digits : List ℕ) → 0 < length digits → 48 < get_or digits 0 0 → is_plain digits ≡ true
plain_from_first [] some first = absurd (omega arith)
plain_from_first (d ∷ []) some first = refl
plain_from_first (d ∷ e ∷ ds) some first = ap not (ne_eqb d 48 (omega arith))

decimal_plain : (n : ℕ) → n < 2 ^ 64 → is_plain (decimal n) ≡ true
decimal_plain n small =
    elim (eq-zero-or-pos n) [
      | inl zero ↦ ap (λ m. is_plain (decimal m)) zero ∙ ap is_plain (decimal_digit 0 (omega arith))
      | inr more ↦ plain_from_first (decimal n) (decimal_nonempty n small) (first_decimal n more small)
    ]

-- what number_at answers for these digits
read_digits : ℕ → List ℕ → List ℕ → Option (ℕ × List ℕ)
read_digits limit bytes digits =
    cond (is_plain digits && leb (digits_value 10 digits) limit) (Some (digits_value 10 digits, drop (length digits) bytes)) None

numeral_of_digits : (limit : ℕ) (bytes digits : List ℕ) → limit < 2 ^ 63 → IsFront digits bytes → is_plain digits ≡ true
    → digits_value 10 digits ≤ limit → IsNumeral limit (digits_value 10 digits) bytes (drop (length digits) bytes)
numeral_of_digits limit bytes digits low front plain small =
    let tells = plain_tells digits plain in
    let same = decimal-digits_value (numerals_by_value _ tells_digits) digits front.0 tells.0 tells.1 (omega (arith, small, low)) in
    record { small = small; spelled = front.1 ∙ ap (λ ds. ds ++ drop (length digits) bytes) (sym same); whole = front.2 }

-- what is read stands there
pub read_stands : (limit n : ℕ) (bytes rest : List ℕ) → limit < 2 ^ 63 → number_at limit bytes ≡ Some (n, rest) → IsNumeral limit n bytes rest
unfolding number_at
read_stands limit n bytes rest low read =
    let digits = take_while is_digit bytes in
    let (test, same) = cond_some _ _ _ read in
    let (plain, small) = both (is_plain digits) (leb (digits_value 10 digits) limit) test in
    let P : ℕ × List ℕ → Type 0 = λ x. IsNumeral limit x.0 bytes x.1 in
    subst P same (numeral_of_digits limit bytes digits low (front_is bytes) plain (leb-true _ _ small))

-- what stands there is read
pub stands_read : (limit n : ℕ) (bytes rest : List ℕ) → limit < 2 ^ 63 → IsNumeral limit n bytes rest → number_at limit bytes ≡ Some (n, rest)
unfolding number_at read_digits
stands_read limit n bytes rest low stands =
    let small : n < 2 ^ 64 = omega (arith, stands.small, low) in
    let (numeral, value) = decimal_is_IsNumeral n small in
    let digits : take_while is_digit bytes ≡ decimal n = ap (take_while is_digit) stands.spelled ∙ front_of (decimal n) rest numeral.1 stands.whole in
    ap (read_digits limit bytes) digits
    ∙ ap (λ t. cond (t && leb (digits_value 10 (decimal n)) limit) (Some (digits_value 10 (decimal n), drop (length (decimal n)) bytes)) None) (decimal_plain n small)
    ∙ ap (λ v. cond (leb v limit) (Some (v, drop (length (decimal n)) bytes)) None) value
    ∙ ap (λ t. cond t (Some (n, drop (length (decimal n)) bytes)) None) (le-leb n limit stands.small)
    ∙ ap (λ r. Some (n, r)) (front_rest bytes (decimal n) rest stands.spelled)

pub reads_numerals : ReadsNumerals
reads_numerals limit n bytes rest low = (read_stands limit n bytes rest low, stands_read limit n bytes rest low)

pub has_one_numeral : HasOneNumeral
has_one_numeral limit m n bytes rest more low first second =
    let same : Some (m, rest) ≡ Some (n, more) = sym (stands_read limit m bytes rest low first) ∙ stands_read limit n bytes more low second in
    let pair : (m, rest) ≡ (n, more) = same_Some _ _ same in
    (ap (λ x. x.0) pair, ap (λ x. x.1) pair)

-- the three ends of the reading, by the digits at the front
pub reads_unplain : (limit : ℕ) (bytes digits : List ℕ) → digits ≡ take_while is_digit bytes → is_plain digits ≡ false → number_at limit bytes ≡ None
unfolding number_at read_digits
reads_unplain limit bytes digits front unplain =
    ap (read_digits limit bytes) (sym front)
    ∙ ap (λ t. cond (t && leb (digits_value 10 digits) limit) (Some (digits_value 10 digits, drop (length digits) bytes)) None) unplain

pub reads_too_great : (limit : ℕ) (bytes digits : List ℕ) → digits ≡ take_while is_digit bytes → limit < digits_value 10 digits → number_at limit bytes ≡ None
unfolding number_at read_digits
reads_too_great limit bytes digits front great =
    ap (read_digits limit bytes) (sym front)
    ∙ ap (λ t. cond (is_plain digits && t) (Some (digits_value 10 digits, drop (length digits) bytes)) None) (lt-leb (digits_value 10 digits) limit great)
    ∙ ap (λ t. cond t (Some (digits_value 10 digits, drop (length digits) bytes)) None) (and-false (is_plain digits))

pub reads_plain : (limit : ℕ) (bytes digits rest : List ℕ) → digits ≡ take_while is_digit bytes → rest ≡ drop (length digits) bytes
    → is_plain digits ≡ true → digits_value 10 digits ≤ limit → number_at limit bytes ≡ Some (digits_value 10 digits, rest)
unfolding number_at read_digits
reads_plain limit bytes digits rest front behind plain small =
    ap (read_digits limit bytes) (sym front)
    ∙ ap (λ t. cond (t && leb (digits_value 10 digits) limit) (Some (digits_value 10 digits, drop (length digits) bytes)) None) plain
    ∙ ap (λ t. cond t (Some (digits_value 10 digits, drop (length digits) bytes)) None) (le-leb _ limit small)
    ∙ ap (λ r. Some (digits_value 10 digits, r)) (sym behind)

-- where nothing is read, no number stands
pub none_stands : (limit : ℕ) (bytes : List ℕ) → limit < 2 ^ 63 → number_at limit bytes ≡ None → (n : ℕ) (rest : List ℕ) → IsNumeral limit n bytes rest → ⊥
none_stands limit bytes low none n rest stands = none-some _ (sym none ∙ stands_read limit n bytes rest low stands)

-- there is no space among digits
pub digits_lack : (digits : List ℕ) → AllDigits 10 digits → Lacks digits 32
digits_lack [] all = All-nil (λ b. b ≢ 32)
digits_lack (d ∷ digits) all =
    let range = digit_from_value d all.0 in
    let differs : d ≢ 32 = omega (arith, range.0) in
    All-cons (λ b. b ≢ 32) d digits differs (digits_lack digits all.1)
