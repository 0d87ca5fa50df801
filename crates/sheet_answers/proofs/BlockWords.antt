-- The first line of a block is told by its word and by the property that it names.
use Rattle.std.proofs.Common.{◌≡◌, ℕ, ◌<◌, ◌^◌, Bool, true, false, List, [], ◌∷◌, ◌++◌, length, refl, sym, ap, ◌∙◌, arith, length-append, Some, None}
use Rattle.std.specs.Prelude.{◌&&◌, ◌==◌}
use Rattle.std.specs.Str.{bytes_eq}
use Rattle.std.proofs.lemmas.Bool.{eqb-true, eq-eqb, false≢true}
use Rattle.std.proofs.lemmas.Option.{none-some, same_Some}
use Rattle.std.proofs.lemmas.Slice.Eq.{bytes_eq-Decides}
use Rattle.certificate_texts.specs.Writing.{property_line}
use Rattle.certificate.specs.Reading.{property_in}
use Rattle.certificate.proofs.CompletingProofs.{heads}
use Rattle.certificate.proofs.CompletingTexts.{named, name_of}

-- two tests that pass together are one
same_test : (b d : Bool) → (b ≡ true → d ≡ true) → (d ≡ true → b ≡ true) → b ≡ d
same_test true d on back = sym (on refl)
same_test false true on back = absurd (false≢true (back refl))
same_test false false on back = refl

pub named_test : (field : List ℕ) (n m : ℕ) → n < 2 ^ 63 → property_in field ≡ Some m → (m == n) ≡ bytes_eq field (property_line n)
named_test field n m small is =
    same_test (m == n) (bytes_eq field (property_line n))
    (λ test. (bytes_eq-Decides field (property_line n)).1 ((name_of field m is).1 ∙ ap property_line (eqb-true m n test)))
    (λ test. eq-eqb m n (same_Some m n (sym is ∙ named field n small ((bytes_eq-Decides field (property_line n)).0 test))))

pub unnamed_test : (field : List ℕ) (n : ℕ) → n < 2 ^ 63 → property_in field ≡ None → false ≡ bytes_eq field (property_line n)
unnamed_test field n small is =
    same_test false (bytes_eq field (property_line n)) (λ test. absurd (false≢true test))
    (λ test. absurd (none-some n (sym is ∙ named field n small ((bytes_eq-Decides field (property_line n)).0 test))))

same_parts : (a b c d : List ℕ) → length a ≡ length b → a ++ c ≡ b ++ d → (a ≡ b) × (c ≡ d)
same_parts [] [] c d size e = (refl, e)
same_parts [] (y ∷ b) c d size e = absurd (omega (arith, size))
same_parts (x ∷ a) [] c d size e = absurd (omega (arith, size))
same_parts (x ∷ a) (y ∷ b) c d size e =
    let parts = heads x y (a ++ c) (b ++ d) e in
    let others = same_parts a b c d (omega (arith, size)) parts.1 in
    ((λ j. parts.0 j ∷ others.0 j), others.1)

both_tests : (b d : Bool) → (b && d) ≡ true → (b ≡ true) × (d ≡ true)
both_tests true d h = (refl, h)
both_tests false d h = absurd (false≢true h)

of_both : (b d : Bool) → b ≡ true → d ≡ true → (b && d) ≡ true
of_both true d h k = k
of_both false d h k = absurd (false≢true h)

pub word_test : (line front field word name : List ℕ) → line ≡ front ++ field → length front ≡ length word → (bytes_eq front word && bytes_eq field name) ≡ bytes_eq line (word ++ name)
word_test line front field word name split size =
    same_test (bytes_eq front word && bytes_eq field name) (bytes_eq line (word ++ name))
    (λ test.
    let both = both_tests (bytes_eq front word) (bytes_eq field name) test in
    let one : front ≡ word = (bytes_eq-Decides front word).0 both.0 in
    let two : field ≡ name = (bytes_eq-Decides field name).0 both.1 in
    (bytes_eq-Decides line (word ++ name)).1 (split ∙ ap (λ xs. xs ++ field) one ∙ ap (λ xs. word ++ xs) two))
    (λ test.
    let parts = same_parts front word field name size (sym split ∙ (bytes_eq-Decides line (word ++ name)).0 test) in
    of_both (bytes_eq front word) (bytes_eq field name) ((bytes_eq-Decides front word).1 parts.0) ((bytes_eq-Decides field name).1 parts.1))

pub short_test : (line word name : List ℕ) → length line < length word → false ≡ bytes_eq line (word ++ name)
short_test line word name short =
    same_test false (bytes_eq line (word ++ name)) (λ test. absurd (false≢true test))
    (λ test.
    let same : length line ≡ length (word ++ name) = ap length ((bytes_eq-Decides line (word ++ name)).0 test) in
    let sum = length-append word name in
    absurd (omega (arith, short, same, sum)))
