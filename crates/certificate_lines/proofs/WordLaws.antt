-- What is read of a line that begins with a word is what it spells.
use Rattle.std.proofs.Common.{◌≡◌, ◌≢◌, ℕ, Bool, true, false, cond, List, [], ◌∷◌, Option, Some, None, refl, ap, sym, subst, ◌∙◌, arith, ltb}
use Rattle.std.specs.Prelude.{decimal, option_map, option_and_then, codes, IfSome, IfNone}
use Rattle.std.specs.List.{join_with_byte, list_all}
use Rattle.std.specs.Str.{bytes_eq}
use Rattle.std.proofs.lemmas.Bool.{and_parts, ltb-true}
use Rattle.std.proofs.lemmas.Option.{same_Some, none-some}
use Rattle.std.proofs.lemmas.Slice.Eq.{bytes_eq-Decides}
use Rattle.std.proofs.lemmas.List.Elements.{All-nil, All-cons}
use Rattle.text_grammar.specs.Pieces.{Lacks, fields}
use Rattle.text_grammar.proofs.PieceLaws.{joins_pieces, cuts_joined}
use Rattle.fair_semantics.specs.declared.entries.Kind.{Kind}
use Rattle.fair_semantics.specs.declared.entries.Kind.TheVariants.{Reach, Wall}
use Rattle.certificate_lines.specs.declared.words.Version.{Version}
use Rattle.certificate_lines.specs.declared.words.Version.TheVariants.{One, Two}
use Rattle.certificate_lines.specs.declared.words.WordLine.{WordLine}
use Rattle.certificate_lines.specs.declared.words.WordLine.TheVariants as lines
use Rattle.certificate_lines.specs.declared.words.Word.{Word}
use Rattle.certificate_lines.specs.declared.words.Word.TheVariants as words
use Rattle.certificate_lines.specs.Fields.{IsNumber, number_in, only}
use Rattle.certificate_lines.specs.Words.{kind_text, version_text, fields_of, word_line_text, HasNumbers, IsWordLine, SpellsNoWordLine, word_in, version_in, two_numbers, opening_of, refutation_of, end_behind, line_behind, word_line_in, word_line_of}
use Rattle.certificate_lines.specs.Laws.{ReadsWordLines, OneWordLine}
use Rattle.certificate_lines.proofs.FieldLaws.{then_given, map_given, has_field, only_given, number_given, number_back, decimal_lacks, same_read}

abbrev word_text : Word → List ℕ
word_text words.Version = codes "version"
word_text words.Reach = codes "reach"
word_text words.Wall = codes "wall"
word_text words.Proof = codes "proof"
word_text words.Refute = codes "refute"
word_text words.End = codes "end"

-- one test of a text, and the others behind it
step_given : {A : Type 0} → (text : A → List ℕ) (field : List ℕ) (v w : A) (more : Option A) (b : Bool) → bytes_eq field (text v) ≡ b
    → (more ≡ Some w → field ≡ text w) → cond b (Some v) more ≡ Some w → field ≡ text w
step_given text field v w more true test later e = (bytes_eq-Decides field (text v)).0 test ∙ ap text (same_Some _ _ e)
step_given text field v w more false test later e = later e

word_given : (field : List ℕ) (w : Word) → word_in field ≡ Some w → field ≡ word_text w
word_given field w e =
    step_given word_text field words.Version w _ _ refl
    (step_given word_text field words.Reach w _ _ refl
    (step_given word_text field words.Wall w _ _ refl
    (step_given word_text field words.Proof w _ _ refl
    (step_given word_text field words.Refute w _ _ refl
    (step_given word_text field words.End w None _ refl (λ none. absurd (none-some w none))))))) e

version_given : (field : List ℕ) (v : Version) → version_in field ≡ Some v → field ≡ version_text v
version_given field v e =
    step_given version_text field One v _ _ refl
    (step_given version_text field Two v None _ refl (λ none. absurd (none-some v none))) e

abbrev AreNumbers : List (List ℕ) → ℕ × ℕ → Type 0
AreNumbers fs sizes = (IsNumber sizes.0 × IsNumber sizes.1) × (fs ≡ decimal sizes.0 ∷ decimal sizes.1 ∷ [])

one_given : (fs : List (List ℕ)) (n : ℕ) → only number_in fs ≡ Some n → IsNumber n × (fs ≡ decimal n ∷ [])
one_given fs n e =
    let field = only_given number_in fs n e in
    let number = number_given field.0 n field.2 in
    (number.0, field.1 ∙ ap (λ f. f ∷ []) number.1)

two_given : (fs : List (List ℕ)) (sizes : ℕ × ℕ) → two_numbers fs ≡ Some sizes → AreNumbers fs sizes
two_given [] sizes e = absurd (cc)
two_given (field ∷ more) sizes e =
    let first = then_given (λ m. option_map (λ n. (m, n)) (only number_in more)) (number_in field) sizes e in
    let second = map_given (λ n. (first.0, n)) (only number_in more) sizes first.2 in
    let here = number_given field first.0 first.1 in
    let there = one_given more second.0 second.1 in
    subst (AreNumbers (field ∷ more)) second.2 ((here.0, there.0), λ i. here.1 i ∷ there.1 i)

abbrev Spells : List (List ℕ) → WordLine → Type 0
Spells fs line = HasNumbers line × (fs ≡ fields_of line)

end_given : (more : List (List ℕ)) (line : WordLine) → end_behind more ≡ Some line → Spells (codes "end" ∷ more) line
end_given [] line e = subst (Spells (codes "end" ∷ [])) (same_Some _ _ e) (tt, refl)
end_given (field ∷ more) line e = absurd (cc)

behind_given : (w : Word) (more : List (List ℕ)) (line : WordLine) → line_behind w more ≡ Some line → Spells (word_text w ∷ more) line
behind_given words.Version more line e =
    let version = map_given (λ v. lines.Version v) (only version_in more) line e in
    let field = only_given version_in more version.0 version.1 in
    let text = version_given field.0 version.0 field.2 in
    subst (Spells (codes "version" ∷ more)) version.2 (tt, ap (λ fs. codes "version" ∷ fs) (field.1 ∙ ap (λ f. f ∷ []) text))
behind_given words.Reach more line e =
    let sizes = map_given (opening_of Reach) (two_numbers more) line e in
    let numbers = two_given more sizes.0 sizes.1 in
    subst (Spells (codes "reach" ∷ more)) sizes.2 (numbers.0, ap (λ fs. codes "reach" ∷ fs) numbers.1)
behind_given words.Wall more line e =
    let sizes = map_given (opening_of Wall) (two_numbers more) line e in
    let numbers = two_given more sizes.0 sizes.1 in
    subst (Spells (codes "wall" ∷ more)) sizes.2 (numbers.0, ap (λ fs. codes "wall" ∷ fs) numbers.1)
behind_given words.Proof more line e =
    let count = map_given (λ n. lines.Proof n) (only number_in more) line e in
    let number = one_given more count.0 count.1 in
    subst (Spells (codes "proof" ∷ more)) count.2 (number.0, ap (λ fs. codes "proof" ∷ fs) number.1)
behind_given words.Refute more line e =
    let sizes = map_given refutation_of (two_numbers more) line e in
    let numbers = two_given more sizes.0 sizes.1 in
    subst (Spells (codes "refute" ∷ more)) sizes.2 (numbers.0, ap (λ fs. codes "refute" ∷ fs) numbers.1)
behind_given words.End more line e = end_given more line e

line_given : (fs : List (List ℕ)) (line : WordLine) → word_line_in fs ≡ Some line → Spells fs line
line_given [] line e = absurd (cc)
line_given (field ∷ more) line e =
    let word = then_given (λ w. line_behind w more) (word_in field) line e in
    let text = word_given field word.0 word.1 in
    subst (λ f. Spells (f ∷ more) line) (sym text) (behind_given word.0 more line word.2)

-- What is spelled is read.
two_back : (m n : ℕ) → IsNumber m → IsNumber n → two_numbers (decimal m ∷ decimal n ∷ []) ≡ Some (m, n)
two_back m n a b =
    ap (option_and_then (λ k. option_map (λ l. (k, l)) (number_in (decimal n)))) (number_back m a)
    ∙ ap (option_map (λ l. (m, l))) (number_back n b)

opening_back : (kind : Kind) (c u : ℕ) → IsNumber c → IsNumber u → word_line_in (kind_text kind ∷ decimal c ∷ decimal u ∷ []) ≡ Some (opening_of kind (c, u))
opening_back Reach c u a b = ap (option_map (opening_of Reach)) (two_back c u a b)
opening_back Wall c u a b = ap (option_map (opening_of Wall)) (two_back c u a b)

line_back : (line : WordLine) → HasNumbers line → word_line_in (fields_of line) ≡ Some line
line_back (lines.Version One) numbers = refl
line_back (lines.Version Two) numbers = refl
line_back (lines.Opening o) numbers = opening_back o.kind o.clauses o.uses numbers.0 numbers.1
line_back (lines.Proof n) numbers = ap (option_map (λ k. lines.Proof k)) (number_back n numbers)
line_back (lines.Refutation r) numbers = ap (option_map refutation_of) (two_back r.uses r.proof_lines numbers.0 numbers.1)
line_back lines.End numbers = refl

-- no field has a space
letters_lack : (word : List ℕ) → list_all (λ b. ltb 32 b) word ≡ true → Lacks word 32
letters_lack [] e = All-nil (λ b. b ≢ 32)
letters_lack (b ∷ word) e =
    let parts = and_parts (ltb 32 b) (list_all (λ b. ltb 32 b) word) e in
    let above = ltb-true 32 b parts.0 in
    let differs : b ≢ 32 = omega (arith, above) in
    All-cons (λ b. b ≢ 32) b word differs (letters_lack word parts.1)

abbrev OneField : List ℕ → Type 0
OneField field = Lacks field 32

one_text : (word text : List ℕ) → OneField word → OneField text → fields (join_with_byte 32 (word ∷ text ∷ [])) ≡ word ∷ text ∷ []
one_text word text a b = cuts_joined 32 word (text ∷ []) (All-cons OneField word (text ∷ []) a (All-cons OneField text [] b (All-nil OneField)))

two_texts : (word : List ℕ) (m n : ℕ) → OneField word → IsNumber m → IsNumber n
    → fields (join_with_byte 32 (word ∷ decimal m ∷ decimal n ∷ [])) ≡ word ∷ decimal m ∷ decimal n ∷ []
two_texts word m n a b c =
    cuts_joined 32 word (decimal m ∷ decimal n ∷ [])
    (All-cons OneField word (decimal m ∷ decimal n ∷ []) a
    (All-cons OneField (decimal m) (decimal n ∷ []) (decimal_lacks m b) (All-cons OneField (decimal n) [] (decimal_lacks n c) (All-nil OneField))))

kind_lacks : (kind : Kind) → OneField (kind_text kind)
kind_lacks Reach = letters_lack (codes "reach") refl
kind_lacks Wall = letters_lack (codes "wall") refl

version_lacks : (version : Version) → OneField (version_text version)
version_lacks One = letters_lack (codes "1") refl
version_lacks Two = letters_lack (codes "2") refl

fields_text : (line : WordLine) → HasNumbers line → fields (word_line_text line) ≡ fields_of line
fields_text (lines.Version v) numbers = one_text (codes "version") (version_text v) (letters_lack (codes "version") refl) (version_lacks v)
fields_text (lines.Opening o) numbers = two_texts (kind_text o.kind) o.clauses o.uses (kind_lacks o.kind) numbers.0 numbers.1
fields_text (lines.Proof n) numbers = one_text (codes "proof") (decimal n) (letters_lack (codes "proof") refl) (decimal_lacks n numbers)
fields_text (lines.Refutation r) numbers = two_texts (codes "refute") r.uses r.proof_lines (letters_lack (codes "refute") refl) numbers.0 numbers.1
fields_text lines.End numbers = cuts_joined 32 (codes "end") [] (All-cons OneField (codes "end") [] (letters_lack (codes "end") refl) (All-nil OneField))

pub word_given_line : (bytes : List ℕ) (line : WordLine) → word_line_of bytes ≡ Some line → IsWordLine bytes line
unfolding word_line_of
word_given_line bytes line e =
    let given = line_given (fields bytes) line e in
    record { numbers = given.0; spelled = sym (joins_pieces 32 bytes) ∙ ap (join_with_byte 32) given.1 }

pub word_back : (bytes : List ℕ) (line : WordLine) → IsWordLine bytes line → word_line_of bytes ≡ Some line
unfolding word_line_of
word_back bytes line is = ap word_line_in (ap fields is.spelled ∙ fields_text line is.numbers) ∙ line_back line is.numbers

pub reads_word_lines : ReadsWordLines
reads_word_lines bytes line = (word_given_line bytes line, word_back bytes line)

pub no_word_line : (bytes : List ℕ) → word_line_of bytes ≡ None → SpellsNoWordLine bytes
no_word_line bytes none line is = none-some _ (sym none ∙ word_back bytes line is)

pub one_word_line : OneWordLine
one_word_line bytes l m a b = same_read (word_line_of bytes) l m (word_back bytes l a) (word_back bytes m b)

-- for the function that reads a line
pub read_line : (bytes field : List ℕ) (more : List (List ℕ)) → fields bytes ≡ field ∷ more → word_line_of bytes ≡ option_and_then (λ w. line_behind w more) (word_in field)
unfolding word_line_of
read_line bytes field more e = ap word_line_in e

pub found_line : (o : Option WordLine) (bytes : List ℕ) → o ≡ word_line_of bytes → IfSome o (λ line. IsWordLine bytes line)
found_line None bytes e = tt
found_line (Some line) bytes e = word_given_line bytes line (sym e)

pub none_line : (o : Option WordLine) (bytes : List ℕ) → o ≡ word_line_of bytes → IfNone o (SpellsNoWordLine bytes)
none_line None bytes e = no_word_line bytes (sym e)
none_line (Some line) bytes e = tt

pub end_none : (bytes : List ℕ) → end_behind (fields bytes) ≡ None
end_none bytes = let has = has_field bytes in ap end_behind has.2
