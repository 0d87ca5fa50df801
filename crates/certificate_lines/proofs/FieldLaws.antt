-- Laws of fields.
use Rattle.std.proofs.Common.{zero, suc, take, length, ◌≤◌, ◌≡◌, ℕ, ◌-◌, ◌^◌, List, [], ◌∷◌, map, Option, Some, None, refl, ap, sym, subst, ◌∙◌, arith}
use Rattle.std.specs.Prelude.{decimal, All, option_map, option_and_then}
use Rattle.std.specs.List.{join_with_byte}
use Rattle.std.proofs.lemmas.Fmt.{decimal_is_IsNumeral}
use Rattle.std.proofs.lemmas.List.{append-nil}
use Rattle.std.proofs.lemmas.Option.{same_Some}
use Rattle.std.proofs.lemmas.List.Elements.{All-nil, All-cons, All-head, All-tail, All-map, All-weaker}
use Rattle.text_grammar.specs.Numerals.{IsNumeral}
use Rattle.text_grammar.specs.Pieces.{Lacks, fields}
use Rattle.text_grammar.proofs.NumeralLaws.{read_stands, stands_read, digits_lack}
use Rattle.text_grammar.proofs.PieceLaws.{joins_pieces, cuts_joined}
use Rattle.text_grammar.proofs.LineLaws.{HasFirst, cut_has}
use Rattle.certificate_lines.specs.Fields.{IsNumber, whole, number_in, read_each, only}

-- what a chain of readings gives
pub then_given : {A B : Type 0} → (f : A → Option B) (o : Option A) (y : B) → option_and_then f o ≡ Some y → (x : A) × (o ≡ Some x) × (f x ≡ Some y)
then_given f None y e = absurd (cc)
then_given f (Some x) y e = (x, refl, e)

pub map_given : {A B : Type 0} → (f : A → B) (o : Option A) (y : B) → option_map f o ≡ Some y → (x : A) × (o ≡ Some x) × (f x ≡ y)
map_given f None y e = absurd (cc)
map_given f (Some x) y e = (x, refl, same_Some _ _ e)

-- a text has a field
pub has_field : (bytes : List ℕ) → HasFirst (fields bytes)
has_field bytes = cut_has 32 bytes

-- two fields are not the only one
pub only_none : {A : Type 0} → (read : List ℕ → Option A) (field bytes : List ℕ) → only read (field ∷ fields bytes) ≡ None
only_none read field bytes = let has = has_field bytes in ap (λ fs. only read (field ∷ fs)) has.2

pub only_given : {A : Type 0} → (read : List ℕ → Option A) (fs : List (List ℕ)) (a : A) → only read fs ≡ Some a → (field : List ℕ) × (fs ≡ field ∷ []) × (read field ≡ Some a)
only_given read [] a e = absurd (cc)
only_given read (field ∷ []) a e = (field, refl, e)
only_given read (field ∷ next ∷ more) a e = absurd (cc)

-- a number that is the whole field
whole_given : (o : Option (ℕ × List ℕ)) (n : ℕ) → whole o ≡ Some n → o ≡ Some (n, [])
whole_given None n e = absurd (cc)
whole_given (Some (m, [])) n e = ap (λ k. Some (k, [])) (same_Some _ _ e)
whole_given (Some (m, byte ∷ rest)) n e = absurd (cc)

pub number_given : (field : List ℕ) (n : ℕ) → number_in field ≡ Some n → IsNumber n × (field ≡ decimal n)
number_given field n e =
    let stands = read_stands (2 ^ 63 - 1) n field [] (omega arith) (whole_given _ n e) in
    (omega (arith, stands.small), stands.spelled ∙ append-nil (decimal n))

pub number_back : (n : ℕ) → IsNumber n → number_in (decimal n) ≡ Some n
number_back n small =
    let stands : IsNumeral (2 ^ 63 - 1) n (decimal n) [] = record { small = omega arith; spelled = sym (append-nil (decimal n)); whole = refl } in
    ap whole (stands_read (2 ^ 63 - 1) n (decimal n) [] (omega arith) stands)

pub decimal_lacks : (n : ℕ) → IsNumber n → Lacks (decimal n) 32
decimal_lacks n small = digits_lack (decimal n) (decimal_is_IsNumeral n (omega arith)).0.1

-- a field that is read is the text of what it is read as, and such a text is read
pub record Reads {A : Type 0} (read : List ℕ → Option A) (text : A → List ℕ) (Good : A → Type 0) : Type 0 where
  pub given : (field : List ℕ) (a : A) → read field ≡ Some a → Good a × (field ≡ text a)
  pub back : (a : A) → Good a → read (text a) ≡ Some a
  pub lacks : (a : A) → Good a → Lacks (text a) 32

pub number_reads : Reads number_in decimal IsNumber
number_reads = record { given = number_given; back = number_back; lacks = decimal_lacks }

abbrev OneField : List ℕ → Type 0
OneField field = Lacks field 32

module _ {A : Type 0} (read : List ℕ → Option A) (text : A → List ℕ) (Good : A → Type 0) (reads : Reads read text Good) where
  abbrev pub IsEach : List (List ℕ) → List A → Type 0
  IsEach fs found = All Good found × (fs ≡ map text found)

  more_given : (field : List ℕ) (fs : List (List ℕ)) (found : List A)
      → ((later : List A) → read_each read fs ≡ Some later → IsEach fs later)
      → option_and_then (λ a. option_map (λ found. a ∷ found) (read_each read fs)) (read field) ≡ Some found → IsEach (field ∷ fs) found
  more_given field fs found recur e =
      let first = then_given (λ a. option_map (λ found. a ∷ found) (read_each read fs)) (read field) found e in
      let later = map_given (λ found. first.0 ∷ found) (read_each read fs) found first.2 in
      let here = reads.given field first.0 first.1 in
      let there = recur later.0 later.1 in
      subst (IsEach (field ∷ fs)) later.2 (All-cons Good first.0 later.0 here.0 there.0, λ i. here.1 i ∷ there.1 i)

  pub each_given : (fs : List (List ℕ)) (found : List A) → read_each read fs ≡ Some found → IsEach fs found
  each_given [] found e = subst (IsEach []) (same_Some _ _ e) (All-nil Good, refl)
  each_given (field ∷ fs) found e = more_given field fs found (each_given fs) e

  pub each_back : (found : List A) → All Good found → read_each read (map text found) ≡ Some found
  each_back [] good = refl
  each_back (a ∷ found) good =
      ap (option_and_then (λ a. option_map (λ found. a ∷ found) (read_each read (map text found)))) (reads.back a (All-head Good a found good))
      ∙ ap (option_map (λ found. a ∷ found)) (each_back found (All-tail Good a found good))

  pub text_given : (bytes : List ℕ) (found : List A) → read_each read (fields bytes) ≡ Some found → All Good found × (bytes ≡ join_with_byte 32 (map text found))
  text_given bytes found e =
      let given = each_given (fields bytes) found e in
      (given.0, sym (joins_pieces 32 bytes) ∙ ap (join_with_byte 32) given.1)

  pub text_back : (a : A) (found : List A) → All Good (a ∷ found) → read_each read (fields (join_with_byte 32 (map text (a ∷ found)))) ≡ Some (a ∷ found)
  text_back a found good =
      let lack : All (λ b. Lacks (text b) 32) (a ∷ found) = All-weaker Good (λ b. Lacks (text b) 32) reads.lacks (a ∷ found) good in
      ap (read_each read) (cuts_joined 32 (text a) (map text found) (All-map OneField text (a ∷ found) lack))
      ∙ each_back (a ∷ found) good

-- what two readings of the same text give is the same
pub same_read : {A : Type 0} → (o : Option A) (a b : A) → o ≡ Some a → o ≡ Some b → a ≡ b
same_read o a b e f = same_Some _ _ (sym e ∙ f)

-- all of a list that a loop went through
pub taken : {A : Type 0} → (xs : List A) (n : ℕ) → length xs ≤ n → take n xs ≡ xs
taken [] zero past = refl
taken [] (suc n) past = refl
taken (x ∷ xs) zero past = absurd (omega (arith, past))
taken (x ∷ xs) (suc n) past = ap (λ ys. x ∷ ys) (taken xs n (omega (arith, past)))
