-- The lines that are written are read again: none has a line feed, and none is skipped.
use Rattle.std.proofs.Common.{◌≡◌, ◌≢◌, ◌<◌, ◌^◌, ℕ, Bool, true, false, not, eqb, List, [], ◌∷◌, ◌++◌, map, refl, ap, ◌∙◌, arith, All}
use Rattle.std.specs.Prelude.{codes, decimal, ◌&&◌, ◌≤◌}
use Rattle.std.specs.List.{join_with_byte, list_all}
use Rattle.std.specs.Str.Parse.{AllDigits}
use Rattle.std.proofs.lemmas.Bool.{ne_eqb, eqb-false, false≢true}
use Rattle.std.proofs.lemmas.Fmt.{decimal_is_IsNumeral}
use Rattle.std.proofs.lemmas.Str.Parse.{digit_from_value}
use Rattle.std.proofs.lemmas.List.Elements.{All-nil, All-cons, All-head, All-tail, All-append, All-map, All-weaker, All-push}
use Rattle.text_grammar.specs.Pieces.{Lacks}
use Rattle.text_grammar.specs.Lines.{lines_of, ended_lines}
use Rattle.text_grammar.proofs.LineLaws.{reads_written_lines}
use Rattle.proof_semantics.specs.declared.literals.Lit.{Lit}
use Rattle.proof_semantics.specs.Lines.{Line, addition, deletion, signed_text, fields_of as proof_fields, IsSize, HasSizes}
use Rattle.proof_semantics.specs.Proofs.{Refutes}
use Rattle.fair_semantics.specs.declared.entries.Side.{Side}
use Rattle.fair_semantics.specs.declared.entries.Side.TheVariants.{Any, In, Out}
use Rattle.fair_semantics.specs.declared.entries.Kind.{Kind}
use Rattle.fair_semantics.specs.declared.entries.Kind.TheVariants.{Reach, Wall}
use Rattle.stimulus.specs.Texts.{is_skipped, kept_lines}
use Rattle.certificate_lines.specs.declared.uses.WrittenUse.{WrittenUse}
use Rattle.certificate_lines.specs.declared.words.Version.TheVariants.{One, Two}
use Rattle.certificate_lines.specs.declared.words.WordLine.{WordLine}
use Rattle.certificate_lines.specs.declared.words.WordLine.TheVariants as lines
use Rattle.certificate_lines.specs.Fields.{IsNumber}
use Rattle.certificate_lines.specs.Words.{kind_text, word_line_text, HasNumbers}
use Rattle.certificate_lines.specs.Uses.{sign_text, use_text, uses_text, MayStand}
use Rattle.certificate_lines.specs.Clauses.{clause_text}
use Rattle.proof_semantics.proofs.AcceptanceLaws.{refuting_lines}
use Rattle.certificate.specs.Lines.{kept_in, bare}
use Rattle.certificate_texts.specs.Writing.{property_line}
use Rattle.certificate.proofs.WrittenGood.{kept-bare}

pub record IsPlain (line : List ℕ) : Type 0 where
  pub lacks : Lacks line 10
  pub kept : is_skipped line ≡ false

-- ---- plain pieces

plain_nil : IsPlain []
plain_nil = record { lacks = All-nil (λ b. b ≢ 10); kept = refl }

skips_neither : (a b : List ℕ) → is_skipped a ≡ false → is_skipped b ≡ false → is_skipped (a ++ b) ≡ false
skips_neither [] b first second = second
skips_neither (x ∷ a) b first second = first

pub plain_append : (a b : List ℕ) → IsPlain a → IsPlain b → IsPlain (a ++ b)
plain_append a b h k =
    record { lacks = All-append (λ x. x ≢ 10) a b h.lacks k.lacks; kept = skips_neither a b h.kept k.kept }

lacks_first : (b : ℕ) (bytes : List ℕ) (t : Bool) → eqb b 10 ≡ t → (list_all (λ x. not (eqb x 10)) bytes ≡ true → Lacks bytes 10)
    → (not t && list_all (λ x. not (eqb x 10)) bytes) ≡ true → Lacks (b ∷ bytes) 10
lacks_first b bytes true is rest e = absurd (false≢true e)
lacks_first b bytes false is rest e = All-cons (λ x. x ≢ 10) b bytes (eqb-false b 10 is) (rest e)

lacks_by : (bytes : List ℕ) → list_all (λ x. not (eqb x 10)) bytes ≡ true → Lacks bytes 10
lacks_by [] e = All-nil (λ x. x ≢ 10)
lacks_by (b ∷ bytes) e = lacks_first b bytes (eqb b 10) refl (lacks_by bytes) e

pub plain_word : (word : List ℕ) → list_all (λ x. not (eqb x 10)) word ≡ true → is_skipped word ≡ false → IsPlain word
plain_word word all kept = record { lacks = lacks_by word all; kept = kept }

plain_digit : (d : ℕ) → 48 ≤ d → d ≤ 57 → IsPlain (d ∷ [])
plain_digit d low high =
    let feed : d ≢ 10 = omega (arith, low) in
    let no_c : d ≢ 99 = omega (arith, high) in
    let no_u : d ≢ 117 = omega (arith, high) in
    record {
      lacks = All-cons (λ x. x ≢ 10) d [] feed (All-nil (λ x. x ≢ 10));
      kept = rw (ne_eqb d 99 no_c) (ne_eqb d 117 no_u);
    }

plain_digits : (digits : List ℕ) → AllDigits 10 digits → IsPlain digits
plain_digits [] all = plain_nil
plain_digits (d ∷ digits) all =
    let range = digit_from_value d all.0 in
    plain_append (d ∷ []) digits (plain_digit d (omega (arith, range.0)) (omega (arith, range.1))) (plain_digits digits all.1)

pub plain_decimal : (n : ℕ) → n < 2 ^ 63 → IsPlain (decimal n)
plain_decimal n small = plain_digits (decimal n) (decimal_is_IsNumeral n (omega (arith, small))).0.1

plain_decimals : (ns : List ℕ) → All IsNumber ns → All IsPlain (map decimal ns)
plain_decimals ns all = All-map IsPlain decimal ns (All-weaker IsNumber (λ n. IsPlain (decimal n)) plain_decimal ns all)

joined_plain : (fs : List (List ℕ)) → All IsPlain fs → IsPlain (join_with_byte 32 fs)
joined_plain [] all = plain_nil
joined_plain (f ∷ []) all = All-head IsPlain f [] all
joined_plain (f ∷ g ∷ fs) all =
    plain_append f (32 ∷ join_with_byte 32 (g ∷ fs)) (All-head IsPlain f (g ∷ fs) all)
    (plain_append (32 ∷ []) (join_with_byte 32 (g ∷ fs)) (plain_word (32 ∷ []) refl refl) (joined_plain (g ∷ fs) (All-tail IsPlain f (g ∷ fs) all)))

-- ---- lines that begin with a word

two_plain : (word : List ℕ) (m : ℕ) → IsPlain word → m < 2 ^ 63 → All IsPlain (word ∷ decimal m ∷ [])
two_plain word m h small =
    All-cons IsPlain word (decimal m ∷ []) h (All-cons IsPlain (decimal m) [] (plain_decimal m small) (All-nil IsPlain))

three_plain : (word : List ℕ) (m n : ℕ) → IsPlain word → m < 2 ^ 63 → n < 2 ^ 63 → All IsPlain (word ∷ decimal m ∷ decimal n ∷ [])
three_plain word m n h small less = All-push IsPlain (word ∷ decimal m ∷ []) (decimal n) (two_plain word m h small) (plain_decimal n less)

kind_plain : (kind : Kind) → IsPlain (kind_text kind)
kind_plain Reach = plain_word (codes "reach") refl refl
kind_plain Wall = plain_word (codes "wall") refl refl

pub word_line_plain : (line : WordLine) → HasNumbers line → IsPlain (word_line_text line)
word_line_plain (lines.Version One) h = plain_word (codes "version 1") refl refl
word_line_plain (lines.Version Two) h = plain_word (codes "version 2") refl refl
word_line_plain (lines.Opening o) h =
    joined_plain (kind_text o.kind ∷ decimal o.clauses ∷ decimal o.uses ∷ []) (three_plain (kind_text o.kind) o.clauses o.uses (kind_plain o.kind) h.0 h.1)
word_line_plain (lines.Proof count) h =
    joined_plain (codes "proof" ∷ decimal count ∷ []) (two_plain (codes "proof") count (plain_word (codes "proof") refl refl) h)
word_line_plain (lines.Refutation r) h =
    joined_plain (codes "refute" ∷ decimal r.uses ∷ decimal r.proof_lines ∷ [])
    (three_plain (codes "refute") r.uses r.proof_lines (plain_word (codes "refute") refl refl) h.0 h.1)
word_line_plain lines.End h = plain_word (codes "end") refl refl

-- ---- the other lines

pub property_plain : (n : ℕ) → n < 2 ^ 63 → IsPlain (property_line n)
property_plain n small = plain_append (codes "j") (decimal n) (plain_word (codes "j") refl refl) (plain_decimal n small)

pub status_plain : IsPlain (codes "0")
status_plain = plain_word (codes "0") refl refl

sign_plain : (side : Side) → IsPlain (sign_text side)
sign_plain Any = plain_nil
sign_plain In = plain_word (codes "+") refl refl
sign_plain Out = plain_word (codes "-") refl refl

pub uses_plain : (us : List WrittenUse) → All (MayStand Two) us → IsPlain (uses_text us)
uses_plain us all =
    let each : (u : WrittenUse) → MayStand Two u → IsPlain (use_text u) =
    λ u h. plain_append (decimal u.number) (sign_text u.side) (plain_decimal u.number h.0) (sign_plain u.side) in
    joined_plain (map use_text us) (All-map IsPlain use_text us (All-weaker (MayStand Two) (λ u. IsPlain (use_text u)) each us all))

pub clause_plain : (literals : List ℕ) → All IsNumber literals → IsPlain (clause_text literals)
clause_plain literals all =
    let zero_is : IsNumber 0 = omega arith in
    joined_plain (map decimal (literals ++ 0 ∷ [])) (plain_decimals (literals ++ 0 ∷ []) (All-push IsNumber literals 0 all zero_is))

-- ---- lines of proofs

abbrev Sized : Lit → Type 0
Sized a = IsSize a.var

signed_by : (n : ℕ) (sign : Bool) → IsSize n → IsPlain (signed_text (record { var = n; positive = sign }))
signed_by n true size = plain_decimal n size.1
signed_by n false size = plain_append (45 ∷ []) (decimal n) (plain_word (45 ∷ []) refl refl) (plain_decimal n size.1)

signed_plain : (lits : List Lit) → All Sized lits → All IsPlain (map signed_text lits)
signed_plain lits all =
    All-map IsPlain signed_text lits (All-weaker Sized (λ a. IsPlain (signed_text a)) (λ a size. signed_by a.var a.positive size) lits all)

zero_plain : IsPlain (48 ∷ [])
zero_plain = plain_word (48 ∷ []) refl refl

fields_plain : (line : Line) → HasSizes line → All IsPlain (proof_fields line)
fields_plain (addition id clause hints) sizes =
    let behind = All-push IsPlain (map signed_text hints) (48 ∷ []) (signed_plain hints sizes.2) zero_plain in
    let all = All-append IsPlain (map signed_text clause) ((48 ∷ []) ∷ (map signed_text hints ++ (48 ∷ []) ∷ [])) (signed_plain clause sizes.1)
    (All-cons IsPlain (48 ∷ []) (map signed_text hints ++ (48 ∷ []) ∷ []) zero_plain behind) in
    All-cons IsPlain (decimal id) _ (plain_decimal id sizes.0.1) all
fields_plain (deletion id ids) sizes =
    let each : All IsNumber ids = All-weaker IsSize IsNumber (λ n h. h.1) ids sizes.1 in
    let ends = All-push IsPlain (map decimal ids) (48 ∷ []) (plain_decimals ids each) zero_plain in
    let behind = All-cons IsPlain (100 ∷ []) (map decimal ids ++ (48 ∷ []) ∷ []) (plain_word (100 ∷ []) refl refl) ends in
    All-cons IsPlain (decimal id) ((100 ∷ []) ∷ (map decimal ids ++ (48 ∷ []) ∷ [])) (plain_decimal id sizes.0.1) behind

-- The lines of a proof that refutes something.
pub refuting_plain : (given : List (List Lit)) (proof : List (List ℕ)) → Refutes given proof → All IsPlain proof
refuting_plain = refuting_lines IsPlain (λ line sizes. joined_plain (proof_fields line) (fields_plain line sizes))

-- ---- what is read again

kept_by : (line : List ℕ) (rest : List (List ℕ)) (t : Bool) → is_skipped line ≡ t → t ≡ false → kept_lines rest ≡ rest → kept_lines (line ∷ rest) ≡ line ∷ rest
kept_by line rest t is e h = rw (is ∙ e) (ap (λ ls. line ∷ ls) h)

all_kept : (ls : List (List ℕ)) → All IsPlain ls → kept_lines ls ≡ ls
all_kept [] all = refl
all_kept (line ∷ ls) all =
    kept_by line ls (is_skipped line) refl (All-head IsPlain line ls all).kept (all_kept ls (All-tail IsPlain line ls all))

-- The kept lines of the text are the lines that were written.
pub written_kept : (ls : List (List ℕ)) → All IsPlain ls → bare (kept_in (ended_lines ls)) ≡ ls
written_kept ls all =
    kept-bare 1 (lines_of (ended_lines ls))
    ∙ ap kept_lines (reads_written_lines ls (All-weaker IsPlain (λ line. Lacks line 10) (λ line h. h.lacks) ls all))
    ∙ all_kept ls all
