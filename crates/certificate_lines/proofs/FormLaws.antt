-- No line that begins with a word is a line of uses or of a clause: these begin with a digit, or are empty.
use Rattle.std.proofs.Common.{◌≡◌, ℕ, ◌<◌, ◌≤◌, List, [], ◌∷◌, ◌++◌, map, get_or, length, refl, ap, sym, ◌∙◌, arith}
use Rattle.std.specs.Prelude.{decimal, All}
use Rattle.std.specs.List.{join_with_byte}
use Rattle.std.specs.Str.Parse.{AllDigits}
use Rattle.std.proofs.lemmas.Fmt.{decimal_is_IsNumeral, decimal_nonempty, decimal_digit}
use Rattle.std.proofs.lemmas.Str.Parse.{digit_from_value}
use Rattle.fair_semantics.specs.declared.entries.Kind.{Kind}
use Rattle.fair_semantics.specs.declared.entries.Kind.TheVariants.{Reach, Wall}
use Rattle.certificate_lines.specs.declared.uses.WrittenUse.{WrittenUse}
use Rattle.certificate_lines.specs.declared.words.Version.{Version}
use Rattle.certificate_lines.specs.declared.words.WordLine.{WordLine}
use Rattle.certificate_lines.specs.declared.words.WordLine.TheVariants as lines
use Rattle.certificate_lines.specs.Fields.{IsNumber}
use Rattle.certificate_lines.specs.Words.{kind_text, word_line_text}
use Rattle.certificate_lines.specs.Uses.{sign_text, use_text, uses_text, MayStand}
use Rattle.certificate_lines.specs.Clauses.{clause_text}
use Rattle.certificate_lines.specs.Laws.{WordsAreNoUses, WordsAreNoClauses}

abbrev first : List ℕ → ℕ
first bytes = get_or bytes 0 0

kind_first : (kind : Kind) (more : List ℕ) → 57 < first (kind_text kind ++ more)
kind_first Reach more = omega arith
kind_first Wall more = omega arith

word_first : (line : WordLine) → 57 < first (word_line_text line)
word_first (lines.Version v) = omega arith
word_first (lines.Opening o) = kind_first o.kind (32 ∷ join_with_byte 32 (decimal o.clauses ∷ decimal o.uses ∷ []))
word_first (lines.Proof n) = omega arith
word_first (lines.Refutation r) = omega arith
word_first lines.End = omega arith

join_first : (text : List ℕ) (texts : List (List ℕ)) → 0 < length text → first (join_with_byte 32 (text ∷ texts)) ≡ first text
join_first [] texts some = absurd (omega arith)
join_first (b ∷ text) [] some = refl
join_first (b ∷ text) (next ∷ texts) some = refl

digits_first : (digits more : List ℕ) → AllDigits 10 digits → 0 < length digits → (first (digits ++ more) ≤ 57) × (0 < length (digits ++ more))
digits_first [] more all some = absurd (omega arith)
digits_first (d ∷ digits) more all some =
    let range = digit_from_value d all.0 in (omega (arith, range.1), omega arith)

plain_first : (digits : List ℕ) → AllDigits 10 digits → first digits ≤ 57
plain_first [] all = omega arith
plain_first (d ∷ digits) all = let range = digit_from_value d all.0 in omega (arith, range.1)

number_first : (n : ℕ) (more : List ℕ) → IsNumber n → (first (decimal n ++ more) ≤ 57) × (0 < length (decimal n ++ more))
number_first n more small = digits_first (decimal n) more (decimal_is_IsNumeral n (omega (arith, small))).0.1 (decimal_nonempty n (omega (arith, small)))

uses_first : (version : Version) (uses : List WrittenUse) → All (MayStand version) uses → first (uses_text uses) ≤ 57
uses_first version [] each = omega arith
uses_first version (u ∷ uses) each =
    let may : MayStand version u = each 0 u (omega arith) in
    let number = number_first u.number (sign_text u.side) may.0 in
    let same = join_first (use_text u) (map use_text uses) number.1 in
    omega (arith, number.0, same)

pub words_are_no_uses : WordsAreNoUses
words_are_no_uses bytes line version uses is are =
    let word = word_first line in
    let digit = uses_first version uses are.each in
    let same : first (word_line_text line) ≡ first (uses_text uses) = ap first (sym is.spelled ∙ are.spelled) in
    omega (arith, word, digit, same)

numbers_first : (literals : List ℕ) → All IsNumber literals → first (clause_text literals) ≤ 57
numbers_first [] each = let zero : first (decimal 0) ≡ 48 = ap first (decimal_digit 0 (omega arith)) in omega (arith, zero)
numbers_first (n ∷ literals) each =
    let small : IsNumber n = each 0 n (omega arith) in
    let number = plain_first (decimal n) (decimal_is_IsNumeral n (omega (arith, small))).0.1 in
    let same = join_first (decimal n) (map decimal (literals ++ 0 ∷ [])) (decimal_nonempty n (omega (arith, small))) in
    omega (arith, number, same)

pub words_are_no_clauses : WordsAreNoClauses
words_are_no_clauses bytes line literals is clause =
    let word = word_first line in
    let digit = numbers_first literals clause.each in
    let same : first (word_line_text line) ≡ first (clause_text literals) = ap first (sym is.spelled ∙ clause.spelled) in
    omega (arith, word, digit, same)
