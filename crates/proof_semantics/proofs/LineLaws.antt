-- What is read of a line is what it spells.
use Rattle.std.proofs.Common.{◌≡◌, ◌≢◌, ℕ, ◌-◌, ◌<◌, ◌^◌, Bool, true, false, cond, eqb, eqb-true, List, [], ◌∷◌, ◌++◌, map, Option, Some, None, refl, ap, sym, subst, ◌∙◌, inl, inr, arith}
use Rattle.std.specs.Prelude.{decimal, All}
use Rattle.std.specs.List.{list_all, join_with_byte}
use Rattle.std.specs.Option.{option_map}
use Rattle.std.proofs.lemmas.Bool.{false≢true, cases_Bool, eqb-false, ne_eqb, and_parts}
use Rattle.std.proofs.lemmas.Option.{some_pair_parts}
use Rattle.std.proofs.lemmas.Fmt.{decimal_is_IsNumeral}
use Rattle.std.proofs.lemmas.List.Elements.{All-nil, All-cons, All-head, All-tail, All-append, All-map}
use Rattle.text_grammar.specs.Numerals.{number_at, IsNumeral}
use Rattle.text_grammar.specs.Pieces.{Lacks, fields}
use Rattle.text_grammar.proofs.NumeralLaws.{read_stands, stands_read, digits_lack}
use Rattle.text_grammar.proofs.PieceLaws.{joins_pieces, cuts_joined}
use Rattle.proof_semantics.specs.Lines.{Line, addition, deletion, signed_text, fields_of, text_of, IsSize, HasSizes, ◌>>=◌, whole_number, size_in, signed_in, is_byte, signed_to_zero, at_end, addition_of, deletion_of, line_behind, line_in, line_of, ReadsSpelled}
use Rattle.proof_semantics.specs.declared.literals.Lit.{Lit}

append-nil : (xs : List ℕ) → xs ++ [] ≡ xs
append-nil [] = refl
append-nil (x ∷ xs) = ap (λ ys. x ∷ ys) (append-nil xs)

-- a number that is the whole field
whole_at : (m n : ℕ) (b : Bool) → eqb m 0 ≡ b → cond b None (Some m) ≡ Some n → (m ≡ n) × (0 < n)
whole_at m n true test e = absurd (cc)
whole_at m n false test e =
    let same : m ≡ n = cc in
    let differs : m ≢ 0 = eqb-false m 0 test in
    (same, omega arith)

whole_given : (o : Option (ℕ × List ℕ)) (n : ℕ) → whole_number o ≡ Some n → (o ≡ Some (n, [])) × (0 < n)
whole_given None n e = absurd (cc)
whole_given (Some (m, byte ∷ rest)) n e = absurd (cc)
whole_given (Some (m, [])) n e =
    let parts = whole_at m n (eqb m 0) refl e in (ap (λ k. Some (k, [])) parts.0, parts.1)

size_given : (field : List ℕ) (n : ℕ) → size_in field ≡ Some n → IsSize n × (field ≡ decimal n)
size_given field n e =
    let parts = whole_given _ n e in
    let stands = read_stands (2 ^ 63 - 1) n field [] (omega arith) parts.0 in
    ((parts.1, omega (arith, stands.small)), stands.spelled ∙ append-nil (decimal n))

size_back : (field : List ℕ) (n : ℕ) → IsSize n → field ≡ decimal n → size_in field ≡ Some n
size_back field n size same =
    let stands : IsNumeral (2 ^ 63 - 1) n field [] = record { small = omega arith; spelled = same ∙ sym (append-nil (decimal n)); whole = refl } in
    ap whole_number (stands_read (2 ^ 63 - 1) n field [] (omega arith) stands)
    ∙ ap (λ b. cond b None (Some n)) (ne_eqb n 0 (omega arith))

-- bytes that spell no number
size_in-nil : size_in [] ≡ None
unfolding number_at
size_in-nil = refl

size_in-minus : (rest : List ℕ) → size_in (45 ∷ rest) ≡ None
unfolding number_at
size_in-minus rest = refl

signed_in-zero : signed_in (48 ∷ []) ≡ None
unfolding number_at
signed_in-zero = refl

signed_in-d : signed_in (100 ∷ []) ≡ None
unfolding number_at
signed_in-d = refl

-- a signed number that is the whole field
abbrev signed : ℕ → Bool → Lit
signed n sign = record { var = n; positive = sign }

mapped_given : (o : Option ℕ) (sign : Bool) (a : Lit) → option_map (λ n. signed n sign) o ≡ Some a → (n : ℕ) × (o ≡ Some n) × (signed n sign ≡ a)
mapped_given None sign a e = absurd (cc)
mapped_given (Some n) sign a e = (n, refl, cc)

abbrev IsSigned : List ℕ → Lit → Type 0
IsSigned field a = IsSize a.var × (field ≡ signed_text a)

signed_given-at : (byte : ℕ) (rest : List ℕ) (a : Lit) (b : Bool) → eqb byte 45 ≡ b
    → cond b (option_map (λ n. signed n false) (size_in rest)) (option_map (λ n. signed n true) (size_in (byte ∷ rest))) ≡ Some a → IsSigned (byte ∷ rest) a
signed_given-at byte rest a true test e =
    let found = mapped_given (size_in rest) false a e in
    let parts = size_given rest found.0 found.1 in
    let minus : byte ≡ 45 = eqb-true byte 45 test in
    subst (IsSigned (byte ∷ rest)) found.2 (parts.0, λ i. minus i ∷ parts.1 i)
signed_given-at byte rest a false test e =
    let found = mapped_given (size_in (byte ∷ rest)) true a e in
    let parts = size_given (byte ∷ rest) found.0 found.1 in
    subst (IsSigned (byte ∷ rest)) found.2 (parts.0, parts.1)

signed_given : (field : List ℕ) (a : Lit) → signed_in field ≡ Some a → IsSigned field a
signed_given [] a e = absurd (cc)
signed_given (byte ∷ rest) a e = signed_given-at byte rest a (eqb byte 45) refl e

positive_back-at : (byte : ℕ) (rest : List ℕ) (n : ℕ) (b : Bool) → eqb byte 45 ≡ b → size_in (byte ∷ rest) ≡ Some n
    → cond b (option_map (λ n. signed n false) (size_in rest)) (option_map (λ n. signed n true) (size_in (byte ∷ rest))) ≡ Some (signed n true)
positive_back-at byte rest n true test e =
    let none : size_in (byte ∷ rest) ≡ None = ap (λ b. size_in (b ∷ rest)) (eqb-true byte 45 test) ∙ size_in-minus rest in
    absurd (cc)
positive_back-at byte rest n false test e = ap (option_map (λ n. signed n true)) e

positive_back : (field : List ℕ) (n : ℕ) → size_in field ≡ Some n → signed_in field ≡ Some (signed n true)
positive_back [] n e = let none = size_in-nil in absurd (cc)
positive_back (byte ∷ rest) n e = positive_back-at byte rest n (eqb byte 45) refl e

signed_back-at : (n : ℕ) (sign : Bool) → IsSize n → signed_in (signed_text (signed n sign)) ≡ Some (signed n sign)
signed_back-at n true size = positive_back (decimal n) n (size_back (decimal n) n size refl)
signed_back-at n false size = ap (option_map (λ n. signed n false)) (size_back (decimal n) n size refl)

signed_back : (a : Lit) → IsSize a.var → signed_in (signed_text a) ≡ Some a
signed_back a size = signed_back-at a.var a.positive size

-- a field of one byte
is_byte_given : (b : ℕ) (field : List ℕ) → is_byte b field ≡ true → field ≡ b ∷ []
is_byte_given b [] e = absurd (false≢true e)
is_byte_given b (c ∷ []) e = λ i. eqb-true c b e i ∷ []
is_byte_given b (c ∷ d ∷ rest) e = absurd (false≢true e)

not_byte : (b : ℕ) (field : List ℕ) (a : Lit) → signed_in (b ∷ []) ≡ None → signed_in field ≡ Some a → is_byte b field ≡ false
not_byte b field a none some =
    elim (cases_Bool (is_byte b field)) [
      | inl here ↦ let same = ap signed_in (is_byte_given b field here) in absurd (cc)
      | inr there ↦ there
    ]

bind_given : {A B : Type 0} → (o : Option A) (f : A → Option B) (y : B) → (o >>= f) ≡ Some y → (x : A) × (o ≡ Some x) × (f x ≡ Some y)
bind_given None f y e = absurd (cc)
bind_given (Some x) f y e = (x, refl, e)

-- signed numbers and a field 0
abbrev Sized : Lit → Type 0
Sized a = IsSize a.var

abbrev Found : Type 0
Found = List Lit × List (List ℕ)

abbrev found : List Lit → List (List ℕ) → Option Found
found lits rest = Some (lits, rest)

abbrev behind_first : Lit → Option Found → Option Found
behind_first a o = o >>= λ f. found (a ∷ f.0) f.1

abbrev IsRun : List (List ℕ) → List Lit → List (List ℕ) → Type 0
IsRun all lits rest = All Sized lits × (all ≡ map signed_text lits ++ (48 ∷ []) ∷ rest)

-- what a run of numbers gives, all of the run being this
along : (all more rest : List (List ℕ)) (ls lits : List Lit) → found ls more ≡ found lits rest → IsRun all ls more → IsRun all lits rest
along all more rest ls lits e run =
    let parts = some_pair_parts ls lits more rest e in
    let P : List Lit → Type 0 = λ xs. IsRun all xs rest in
    let Q : List (List ℕ) → Type 0 = λ xs. IsRun all ls xs in
    subst P parts.0 (subst Q parts.1 run)

run_more : (field : List ℕ) (more rest : List (List ℕ)) (lits : List Lit) → ((ls : List Lit) (rs : List (List ℕ)) → signed_to_zero more ≡ found ls rs → IsRun more ls rs)
    → (signed_in field >>= λ a. behind_first a (signed_to_zero more)) ≡ found lits rest → IsRun (field ∷ more) lits rest
run_more field more rest lits recur e =
    let first = bind_given (signed_in field) (λ a. behind_first a (signed_to_zero more)) (lits, rest) e in
    let later = bind_given (signed_to_zero more) (λ f. found (first.0 ∷ f.0) f.1) (lits, rest) first.2 in
    let here = signed_given field first.0 first.1 in
    let run = recur later.0.0 later.0.1 later.1 in
    along (field ∷ more) later.0.1 rest (first.0 ∷ later.0.0) lits later.2
    (All-cons Sized first.0 later.0.0 here.0 run.0, λ i. here.1 i ∷ run.1 i)

run_given-at : (field : List ℕ) (more rest : List (List ℕ)) (lits : List Lit) (b : Bool) → is_byte 48 field ≡ b
    → ((ls : List Lit) (rs : List (List ℕ)) → signed_to_zero more ≡ found ls rs → IsRun more ls rs)
    → cond b (found [] more) (signed_in field >>= λ a. behind_first a (signed_to_zero more)) ≡ found lits rest → IsRun (field ∷ more) lits rest
run_given-at field more rest lits true test recur e =
    along (field ∷ more) more rest [] lits e (All-nil Sized, λ i. is_byte_given 48 field test i ∷ more)
run_given-at field more rest lits false test recur e = run_more field more rest lits recur e

run_given : (all rest : List (List ℕ)) (lits : List Lit) → signed_to_zero all ≡ found lits rest → IsRun all lits rest
run_given [] rest lits e = absurd (cc)
run_given (field ∷ more) rest lits e = run_given-at field more rest lits (is_byte 48 field) refl (λ ls rs. run_given more rs ls) e

run_back : (lits : List Lit) (rest : List (List ℕ)) → All Sized lits → signed_to_zero (map signed_text lits ++ (48 ∷ []) ∷ rest) ≡ found lits rest
run_back [] rest sizes = refl
run_back (a ∷ lits) rest sizes =
    let here = signed_back a (All-head Sized a lits sizes) in
    let behind : List (List ℕ) = map signed_text lits ++ (48 ∷ []) ∷ rest in
    ap (λ b. cond b (found [] behind) (signed_in (signed_text a) >>= λ c. behind_first c (signed_to_zero behind)))
    (not_byte 48 (signed_text a) a signed_in-zero here)
    ∙ ap (λ o. o >>= λ c. behind_first c (signed_to_zero behind)) here
    ∙ ap (behind_first a) (run_back lits rest (All-tail Sized a lits sizes))

-- the end of a line
end_given : (line : Line) (rest : List (List ℕ)) (given : Line) → at_end line rest ≡ Some given → (line ≡ given) × (rest ≡ [])
end_given line [] given e = (cc, refl)
end_given line (field ∷ rest) given e = absurd (cc)

abbrev Spells : List (List ℕ) → Line → Type 0
Spells all line = HasSizes line × (all ≡ fields_of line)

-- an addition
addition_given : (field : List ℕ) (id : ℕ) (more : List (List ℕ)) (line : Line) → IsSize id → field ≡ decimal id → addition_of id more ≡ Some line → Spells (field ∷ more) line
addition_given field id more line size same e =
    let clause = bind_given (signed_to_zero more) (λ c. signed_to_zero c.1 >>= λ hints. at_end (addition id c.0 hints.0) hints.1) line e in
    let hints = bind_given (signed_to_zero clause.0.1) (λ h. at_end (addition id clause.0.0 h.0) h.1) line clause.2 in
    let ends = end_given (addition id clause.0.0 hints.0.0) hints.0.1 line hints.2 in
    let first = run_given more clause.0.1 clause.0.0 clause.1 in
    let second = run_given clause.0.1 hints.0.1 hints.0.0 hints.1 in
    let behind : clause.0.1 ≡ map signed_text hints.0.0 ++ (48 ∷ []) ∷ [] = second.1 ∙ ap (λ rest. map signed_text hints.0.0 ++ (48 ∷ []) ∷ rest) ends.1 in
    let spelled : more ≡ map signed_text clause.0.0 ++ (48 ∷ []) ∷ (map signed_text hints.0.0 ++ (48 ∷ []) ∷ []) =
    first.1 ∙ ap (λ rest. map signed_text clause.0.0 ++ (48 ∷ []) ∷ rest) behind in
    subst (Spells (field ∷ more)) ends.0 ((size, first.0, second.0), λ i. same i ∷ spelled i)

-- ids are spelled as signed numbers are that are not negative
positive_texts : (lits : List Lit) → list_all (λ a. a.positive) lits ≡ true → map signed_text lits ≡ map decimal (map (λ a. a.var) lits)
positive_texts [] e = refl
positive_texts (a ∷ lits) e =
    let parts = and_parts a.positive (list_all (λ a. a.positive) lits) e in
    λ i. cond (parts.0 i) (decimal a.var) (45 ∷ decimal a.var) ∷ positive_texts lits parts.1 i

if_given : (test : Bool) (o : Option Line) (line : Line) → cond test o None ≡ Some line → (test ≡ true) × (o ≡ Some line)
if_given true o line e = (refl, e)
if_given false o line e = absurd (cc)

-- a deletion
deletion_given : (field word : List ℕ) (id : ℕ) (more : List (List ℕ)) (line : Line) → IsSize id → field ≡ decimal id → word ≡ 100 ∷ [] → deletion_of id more ≡ Some line
    → Spells (field ∷ word ∷ more) line
deletion_given field word id more line size same is e =
    let ids = bind_given (signed_to_zero more) (λ f. cond (list_all (λ a. a.positive) f.0) (at_end (deletion id (map (λ a. a.var) f.0)) f.1) None) line e in
    let test = if_given (list_all (λ a. a.positive) ids.0.0) (at_end (deletion id (map (λ a. a.var) ids.0.0)) ids.0.1) line ids.2 in
    let ends = end_given (deletion id (map (λ a. a.var) ids.0.0)) ids.0.1 line test.1 in
    let run = run_given more ids.0.1 ids.0.0 ids.1 in
    let spelled : more ≡ map decimal (map (λ a. a.var) ids.0.0) ++ (48 ∷ []) ∷ [] =
    run.1 ∙ (λ i. positive_texts ids.0.0 test.0 i ++ (48 ∷ []) ∷ ends.1 i) in
    subst (Spells (field ∷ word ∷ more)) ends.0 ((size, All-map IsSize (λ a. a.var) ids.0.0 run.0), λ i. same i ∷ is i ∷ spelled i)

behind_given : (field word : List ℕ) (id : ℕ) (more : List (List ℕ)) (line : Line) (b : Bool) → is_byte 100 word ≡ b → IsSize id → field ≡ decimal id
    → cond b (deletion_of id more) (addition_of id (word ∷ more)) ≡ Some line → Spells (field ∷ word ∷ more) line
behind_given field word id more line true test size same e = deletion_given field word id more line size same (is_byte_given 100 word test) e
behind_given field word id more line false test size same e = addition_given field id (word ∷ more) line size same e

id_given : (field : List ℕ) (id : ℕ) (more : List (List ℕ)) (line : Line) → size_in field ≡ Some id → line_behind id more ≡ Some line → Spells (field ∷ more) line
id_given field id [] line e f = absurd (cc)
id_given field id (word ∷ more) line e f =
    let parts = size_given field id e in behind_given field word id more line (is_byte 100 word) refl parts.0 parts.1 f

line_given : (all : List (List ℕ)) (line : Line) → line_in all ≡ Some line → Spells all line
line_given [] line e = absurd (cc)
line_given (field ∷ more) line e =
    let id = bind_given (size_in field) (λ n. line_behind n more) line e in id_given field id.0 more line id.1 id.2

-- What is spelled is read.
addition_back : (id : ℕ) (clause hints : List Lit) → All Sized clause → All Sized hints
    → addition_of id (map signed_text clause ++ (48 ∷ []) ∷ (map signed_text hints ++ (48 ∷ []) ∷ [])) ≡ Some (addition id clause hints)
addition_back id clause hints first second =
    ap (λ o. o >>= λ c. signed_to_zero c.1 >>= λ h. at_end (addition id c.0 h.0) h.1) (run_back clause (map signed_text hints ++ (48 ∷ []) ∷ []) first)
    ∙ ap (λ o. o >>= λ h. at_end (addition id clause h.0) h.1) (run_back hints [] second)

-- what follows the id of an addition begins with no d
behind_back : (id : ℕ) (clause : List Lit) (rest : List (List ℕ)) → All Sized clause
    → line_behind id (map signed_text clause ++ (48 ∷ []) ∷ rest) ≡ addition_of id (map signed_text clause ++ (48 ∷ []) ∷ rest)
behind_back id [] rest sizes = refl
behind_back id (a ∷ clause) rest sizes =
    let behind : List (List ℕ) = map signed_text clause ++ (48 ∷ []) ∷ rest in
    ap (λ b. cond b (deletion_of id behind) (addition_of id (signed_text a ∷ behind)))
    (not_byte 100 (signed_text a) a signed_in-d (signed_back a (All-head Sized a clause sizes)))

abbrev positive : ℕ → Lit
positive n = signed n true

same_texts : (ids : List ℕ) → map decimal ids ≡ map signed_text (map positive ids)
same_texts [] = refl
same_texts (n ∷ ids) = ap (λ rest. decimal n ∷ rest) (same_texts ids)

same_ids : (ids : List ℕ) → map (λ (a : Lit). a.var) (map positive ids) ≡ ids
same_ids [] = refl
same_ids (n ∷ ids) = ap (λ rest. n ∷ rest) (same_ids ids)

all_positive : (ids : List ℕ) → list_all (λ (a : Lit). a.positive) (map positive ids) ≡ true
all_positive [] = refl
all_positive (n ∷ ids) = all_positive ids

deletion_back : (id : ℕ) (ids : List ℕ) → All IsSize ids → deletion_of id (map decimal ids ++ (48 ∷ []) ∷ []) ≡ Some (deletion id ids)
deletion_back id ids sizes =
    ap (λ texts. deletion_of id (texts ++ (48 ∷ []) ∷ [])) (same_texts ids)
    ∙ ap (λ o. o >>= λ f. cond (list_all (λ a. a.positive) f.0) (at_end (deletion id (map (λ a. a.var) f.0)) f.1) None)
    (run_back (map positive ids) [] (All-map Sized positive ids sizes))
    ∙ ap (λ b. cond b (Some (deletion id (map (λ a. a.var) (map positive ids)))) None) (all_positive ids)
    ∙ ap (λ found_ids. Some (deletion id found_ids)) (same_ids ids)

line_back : (line : Line) → HasSizes line → line_in (fields_of line) ≡ Some line
line_back (addition id clause hints) sizes =
    let behind : List (List ℕ) = map signed_text clause ++ (48 ∷ []) ∷ (map signed_text hints ++ (48 ∷ []) ∷ []) in
    ap (λ o. o >>= λ n. line_behind n behind) (size_back (decimal id) id sizes.0 refl)
    ∙ behind_back id clause (map signed_text hints ++ (48 ∷ []) ∷ []) sizes.1
    ∙ addition_back id clause hints sizes.1 sizes.2
line_back (deletion id ids) sizes =
    let behind : List (List ℕ) = map decimal ids ++ (48 ∷ []) ∷ [] in
    ap (λ o. o >>= λ n. line_behind n ((100 ∷ []) ∷ behind)) (size_back (decimal id) id sizes.0 refl)
    ∙ deletion_back id ids sizes.1

decimal_lacks : (n : ℕ) → IsSize n → Lacks (decimal n) 32
decimal_lacks n size = digits_lack (decimal n) (decimal_is_IsNumeral n (omega arith)).0.1

signed_lacks : (n : ℕ) (sign : Bool) → IsSize n → Lacks (signed_text (signed n sign)) 32
signed_lacks n true size = decimal_lacks n size
signed_lacks n false size = let differs : 45 ≢ 32 = omega arith in All-cons (λ b. b ≢ 32) 45 (decimal n) differs (decimal_lacks n size)

abbrev OneField : List ℕ → Type 0
OneField field = Lacks field 32

byte_lacks : (b : ℕ) → b ≢ 32 → OneField (b ∷ [])
byte_lacks b differs = All-cons (λ c. c ≢ 32) b [] differs (All-nil (λ c. c ≢ 32))

signed_fields : (lits : List Lit) → All Sized lits → All OneField (map signed_text lits)
signed_fields [] sizes = All-nil OneField
signed_fields (a ∷ lits) sizes =
    All-cons OneField (signed_text a) (map signed_text lits) (signed_lacks a.var a.positive (All-head Sized a lits sizes))
    (signed_fields lits (All-tail Sized a lits sizes))

id_fields : (ids : List ℕ) → All IsSize ids → All OneField (map decimal ids)
id_fields [] sizes = All-nil OneField
id_fields (n ∷ ids) sizes =
    All-cons OneField (decimal n) (map decimal ids) (decimal_lacks n (All-head IsSize n ids sizes)) (id_fields ids (All-tail IsSize n ids sizes))

zero_fields : (rest : List (List ℕ)) → All OneField rest → All OneField ((48 ∷ []) ∷ rest)
zero_fields rest all = let differs : 48 ≢ 32 = omega arith in All-cons OneField (48 ∷ []) rest (byte_lacks 48 differs) all

fields_text : (line : Line) → HasSizes line → fields (text_of line) ≡ fields_of line
fields_text (addition id clause hints) sizes =
    let second = All-append OneField (map signed_text hints) ((48 ∷ []) ∷ []) (signed_fields hints sizes.2) (zero_fields [] (All-nil OneField)) in
    let behind = All-append OneField (map signed_text clause) ((48 ∷ []) ∷ (map signed_text hints ++ (48 ∷ []) ∷ [])) (signed_fields clause sizes.1) (zero_fields _ second) in
    cuts_joined 32 (decimal id) _ (All-cons OneField (decimal id) _ (decimal_lacks id sizes.0) behind)
fields_text (deletion id ids) sizes =
    let differs : 100 ≢ 32 = omega arith in
    let behind = All-append OneField (map decimal ids) ((48 ∷ []) ∷ []) (id_fields ids sizes.1) (zero_fields [] (All-nil OneField)) in
    let ids_behind : List (List ℕ) = map decimal ids ++ (48 ∷ []) ∷ [] in
    let word = All-cons OneField (100 ∷ []) ids_behind (byte_lacks 100 differs) behind in
    cuts_joined 32 (decimal id) ((100 ∷ []) ∷ ids_behind) (All-cons OneField (decimal id) ((100 ∷ []) ∷ ids_behind) (decimal_lacks id sizes.0) word)

spelled_given : (bytes : List ℕ) (line : Line) → line_of bytes ≡ Some line → HasSizes line × (bytes ≡ text_of line)
unfolding line_of
spelled_given bytes line e =
    let given = line_given (fields bytes) line e in
    (given.0, sym (joins_pieces 32 bytes) ∙ ap (join_with_byte 32) given.1)

spelled_back : (bytes : List ℕ) (line : Line) → HasSizes line → bytes ≡ text_of line → line_of bytes ≡ Some line
unfolding line_of
spelled_back bytes line sizes spelled =
    ap line_in (ap fields spelled ∙ fields_text line sizes) ∙ line_back line sizes

-- What is read is the line that the bytes spell.
pub reads_spelled : ReadsSpelled
reads_spelled bytes line = (spelled_given bytes line, λ h. spelled_back bytes line h.0 h.1)
