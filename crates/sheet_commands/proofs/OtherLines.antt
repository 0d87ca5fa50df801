-- No line of an entry, of a refutation or of a stimulus begins as the first line of a block with a stimulus does.
use Rattle.std.proofs.Common.{◌≡◌, ◌≢◌, ◌≤◌, ◌<◌, ◌^◌, ℕ, Bool, false, eqb, List, [], ◌∷◌, ◌++◌, map, flat_map, length, get_or, refl, sym, ap, ◌∙◌, subst, arith, All, Some, None}
use Rattle.std.specs.Prelude.{codes, decimal}
use Rattle.std.specs.List.{join_with_byte}
use Rattle.std.specs.Str.Parse.{AllDigits}
use Rattle.std.proofs.lemmas.Bool.{ne_eqb, eqb-false}
use Rattle.std.proofs.lemmas.Fmt.{decimal_is_IsNumeral}
use Rattle.std.proofs.lemmas.Option.{none-some}
use Rattle.std.proofs.lemmas.Str.Parse.{digit_from_value}
use Rattle.std.proofs.lemmas.List.Elements.{All-nil, All-cons, All-head, All-tail, All-append, All-from_get_or, All-push}
use Rattle.aig_semantics.specs.declared.traces.Stimulus.{Stimulus}
use Rattle.aig_semantics.specs.Circuits.{Circuit}
use Rattle.proof_semantics.specs.declared.literals.Lit.{Lit}
use Rattle.proof_semantics.specs.Lines.{Line, addition, deletion, signed_text, fields_of as proof_fields, HasSizes}
use Rattle.proof_semantics.specs.Proofs.{Refutes}
use Rattle.fair_semantics.specs.declared.entries.Side.{Side}
use Rattle.fair_semantics.specs.declared.entries.Side.TheVariants.{Any, In, Out}
use Rattle.fair_semantics.specs.declared.entries.Kind.{Kind}
use Rattle.fair_semantics.specs.declared.entries.Kind.TheVariants.{Reach, Wall}
use Rattle.fair_semantics.specs.Entries.{Entry}
use Rattle.stimulus.specs.Texts.{value_of, row_values, present}
use Rattle.certificate_lines.specs.declared.uses.WrittenUse.{WrittenUse}
use Rattle.certificate_lines.specs.declared.words.Version.TheVariants.{One, Two}
use Rattle.certificate_lines.specs.declared.words.WordLine.{WordLine}
use Rattle.certificate_lines.specs.declared.words.WordLine.TheVariants as lines
use Rattle.certificate_lines.specs.Fields.{IsNumber}
use Rattle.certificate_lines.specs.Words.{kind_text, word_line_text}
use Rattle.certificate_lines.specs.Uses.{sign_text, use_text, uses_text, MayStand, written}
use Rattle.certificate_lines.specs.Clauses.{clause_text}
use Rattle.entry.specs.declared.refutations.Refutation.{Refutation}
use Rattle.entry.specs.Proved.{IsProved, AreProofs, obligation_of}
use Rattle.certificate.specs.Answers.{Spells}
use Rattle.certificate_texts.specs.declared.certificates.Written.{Written}
use Rattle.certificate_texts.specs.Certificates.{opening_line, proof_lines, entry_lines, refuting_line, refutation_lines, CanBeWritten}
use Rattle.certificate.specs.Certificates.{entry_with, AreProvedBehind}
use Rattle.certificate.proofs.CompletingProofs.{heads}
use Rattle.certificate.proofs.PlainLines.{IsPlain, plain_append, plain_word}
use Rattle.sheet_answers.specs.Sheets.{refuting}
use Rattle.proof_semantics.proofs.AcceptanceLaws.{refuting_lines}

abbrev pub begins : List ℕ → ℕ
begins [] = 0
begins (byte ∷ line) = byte

-- the line does not begin with l
pub record IsOther (line : List ℕ) : Type 0 where
  pub apart : begins line ≢ 108

pub other_word : (line : List ℕ) → eqb (begins line) 108 ≡ false → IsOther line
other_word line h = record { apart = eqb-false (begins line) 108 h }

-- ---- pieces

other_append : (a b : List ℕ) → IsOther a → IsOther b → IsOther (a ++ b)
other_append [] b h k = k
other_append (x ∷ a) b h k = record { apart = h.apart }

other_joined : (f : List ℕ) (fs : List (List ℕ)) → IsOther f → IsOther (join_with_byte 32 (f ∷ fs))
other_joined f [] h = h
other_joined f (g ∷ fs) h = other_append f (32 ∷ join_with_byte 32 (g ∷ fs)) h (other_word (32 ∷ join_with_byte 32 (g ∷ fs)) refl)

other_digits : (digits : List ℕ) → AllDigits 10 digits → IsOther digits
other_digits [] all = other_word [] refl
other_digits (d ∷ digits) all =
    let range = digit_from_value d all.0 in
    let high : d ≤ 57 = omega (arith, range.1) in
    let apart : d ≢ 108 = omega (arith, high) in
    record { apart = apart }

other_decimal : (n : ℕ) → n < 2 ^ 63 → IsOther (decimal n)
other_decimal n small = other_digits (decimal n) (decimal_is_IsNumeral n (omega (arith, small))).0.1

-- ---- lines

other_kind : (kind : Kind) → IsOther (kind_text kind)
other_kind Reach = other_word (codes "reach") refl
other_kind Wall = other_word (codes "wall") refl

pub other_word_line : (line : WordLine) → IsOther (word_line_text line)
other_word_line (lines.Version One) = other_word (codes "version 1") refl
other_word_line (lines.Version Two) = other_word (codes "version 2") refl
other_word_line (lines.Opening o) = other_joined (kind_text o.kind) (decimal o.clauses ∷ decimal o.uses ∷ []) (other_kind o.kind)
other_word_line (lines.Proof count) = other_joined (codes "proof") (decimal count ∷ []) (other_word (codes "proof") refl)
other_word_line (lines.Refutation r) = other_joined (codes "refute") (decimal r.uses ∷ decimal r.proof_lines ∷ []) (other_word (codes "refute") refl)
other_word_line lines.End = other_word (codes "end") refl

other_sign : (side : Side) → IsOther (sign_text side)
other_sign Any = other_word [] refl
other_sign In = other_word (codes "+") refl
other_sign Out = other_word (codes "-") refl

other_uses : (us : List WrittenUse) → All (MayStand Two) us → IsOther (uses_text us)
other_uses [] all = other_word [] refl
other_uses (u ∷ us) all =
    let stands = All-head (MayStand Two) u us all in
    other_joined (use_text u) (map use_text us) (other_append (decimal u.number) (sign_text u.side) (other_decimal u.number stands.0) (other_sign u.side))

other_clause : (literals : List ℕ) → All IsNumber literals → IsOther (clause_text literals)
other_clause [] all = other_decimal 0 (omega arith)
other_clause (l ∷ literals) all =
    other_joined (decimal l) (map decimal (literals ++ 0 ∷ [])) (other_decimal l (All-head IsNumber l literals all))

other_clauses : (clauses : List (List ℕ)) → All (All IsNumber) clauses → All IsOther (map clause_text clauses)
other_clauses [] all = All-nil IsOther
other_clauses (clause ∷ clauses) all =
    All-cons IsOther (clause_text clause) (map clause_text clauses) (other_clause clause (All-head (All IsNumber) clause clauses all))
    (other_clauses clauses (All-tail (All IsNumber) clause clauses all))

-- ---- lines of proofs

other_fields : (line : Line) → HasSizes line → IsOther (join_with_byte 32 (proof_fields line))
other_fields (addition id clause hints) sizes =
    other_joined (decimal id) (map signed_text clause ++ (48 ∷ []) ∷ (map signed_text hints ++ (48 ∷ []) ∷ [])) (other_decimal id sizes.0.1)
other_fields (deletion id ids) sizes = other_joined (decimal id) ((100 ∷ []) ∷ (map decimal ids ++ (48 ∷ []) ∷ [])) (other_decimal id sizes.0.1)

other_proof : (given : List (List Lit)) (proof : List (List ℕ)) → Refutes given proof → All IsOther proof
other_proof = refuting_lines IsOther other_fields

-- ---- entries and refutations

each_proof : (c : Circuit) (before : List Entry) (e : Entry) (proofs : List (List (List ℕ))) → AreProofs c before e proofs → All (λ proof. All IsOther proof) proofs
each_proof c before e proofs h =
    All-from_get_or (λ proof. All IsOther proof) proofs []
    (λ i below. let count = h.count in other_proof (obligation_of c before e i) (get_or proofs i []) (h.refute i (omega (arith, below, count))))

all_proofs : (proofs : List (List (List ℕ))) → All (λ proof. All IsOther proof) proofs → All IsOther (flat_map proof_lines proofs)
all_proofs [] all = All-nil IsOther
all_proofs (proof ∷ proofs) all =
    All-append IsOther (proof_lines proof) (flat_map proof_lines proofs)
    (All-cons IsOther (word_line_text (lines.Proof (length proof))) proof (other_word_line (lines.Proof (length proof))) (All-head (λ p. All IsOther p) proof proofs all))
    (all_proofs proofs (All-tail (λ p. All IsOther p) proof proofs all))

other_entry : (c : Circuit) (before : List Entry) (e : Written) (clauses : List (List Lit)) → CanBeWritten Two e → IsProved c before (entry_with e clauses) e.proofs
    → All IsOther (entry_lines e)
other_entry c before e clauses form proved =
    let rest : List (List ℕ) = map clause_text e.clauses ++ flat_map proof_lines e.proofs in
    All-cons IsOther (word_line_text (opening_line e)) (uses_text (map written e.uses) ∷ rest) (other_word_line (opening_line e))
    (All-cons IsOther (uses_text (map written e.uses)) rest (other_uses (map written e.uses) form.uses)
    (All-append IsOther (map clause_text e.clauses) (flat_map proof_lines e.proofs) (other_clauses e.clauses form.literals)
    (all_proofs e.proofs (each_proof c before (entry_with e clauses) e.proofs proved.each))))

pub other_entries : (c : Circuit) (before : List Entry) (es : List Written) (all : List Entry) → All (CanBeWritten Two) es → AreProvedBehind c before es all
    → All IsOther (flat_map entry_lines es)
other_entries c before [] all form proved = All-nil IsOther
other_entries c before (e ∷ es) all form (clauses, are, first, others) =
    All-append IsOther (entry_lines e) (flat_map entry_lines es) (other_entry c before e clauses (All-head (CanBeWritten Two) e es form) first)
    (other_entries c (before ++ entry_with e clauses ∷ []) es all (All-tail (CanBeWritten Two) e es form) others)

pub other_refutation : (r : Refutation) (given : List (List Lit)) → All (MayStand Two) (map written r.uses) → Refutes given r.proof
    → All IsOther (refutation_lines (refuting r))
other_refutation r given stand refutes =
    All-cons IsOther (word_line_text (refuting_line (refuting r))) (uses_text (map written r.uses) ∷ r.proof) (other_word_line (refuting_line (refuting r)))
    (All-cons IsOther (uses_text (map written r.uses)) r.proof (other_uses (map written r.uses) stand) (other_proof given r.proof refutes))

-- ---- lines of a stimulus: each of their bytes stands for a value

no_value : (b k : ℕ) (v : Bool) → value_of k ≡ None → value_of b ≡ Some v → b ≢ k
no_value b k v none some same = none-some v (sym none ∙ sym (ap value_of same) ∙ some)

plain_byte : (b : ℕ) (v : Bool) → value_of b ≡ Some v → IsPlain (b ∷ [])
plain_byte b v e =
    let feed : b ≢ 10 = no_value b 10 v refl e in
    let no_c : b ≢ 99 = no_value b 99 v refl e in
    let no_u : b ≢ 117 = no_value b 117 v refl e in
    record {
      lacks = All-cons (λ x. x ≢ 10) b [] feed (All-nil (λ x. x ≢ 10));
      kept = rw (ne_eqb b 99 no_c) (ne_eqb b 117 no_u);
    }

plain_row : (row : List ℕ) (values : List Bool) → map value_of row ≡ map Some values → IsPlain row
plain_row [] values e = plain_word [] refl refl
plain_row (b ∷ row) [] e = absurd (cc e)
plain_row (b ∷ row) (v ∷ values) e =
    let both = heads (value_of b) (Some v) (map value_of row) (map Some values) e in
    plain_append (b ∷ []) row (plain_byte b v both.0) (plain_row row values both.1)

other_row : (row : List ℕ) (values : List Bool) → map value_of row ≡ map Some values → IsOther row
other_row [] values e = other_word [] refl
other_row (b ∷ row) [] e = absurd (cc e)
other_row (b ∷ row) (v ∷ values) e =
    let both = heads (value_of b) (Some v) (map value_of row) (map Some values) e in
    let apart : b ≢ 108 = no_value b 108 v refl both.0 in
    record { apart = apart }

module _ (P : List ℕ → Type 0) (of_row : (row : List ℕ) (values : List Bool) → map value_of row ≡ map Some values → P row) where
  each_row : (rows : List (List ℕ)) (values : List (List Bool)) → row_values rows ≡ present values → All P rows
  each_row [] values e = All-nil P
  each_row (row ∷ rows) [] e = absurd (cc e)
  each_row (row ∷ rows) (vs ∷ values) e =
      let both = heads (map value_of row) (map Some vs) (row_values rows) (present values) e in
      All-cons P row rows (of_row row vs both.0) (each_row rows values both.1)

  spelled_rows : (s : Stimulus) (rows : List (List ℕ)) → P (codes ".") → Spells s rows → All P rows
  spelled_rows s rows dot (inner, spelled, values) =
      subst (All P) (sym spelled) (All-push P inner (codes ".") (each_row inner (s.latches ∷ s.inputs) values) dot)

pub other_rows : (s : Stimulus) (rows : List (List ℕ)) → Spells s rows → All IsOther rows
other_rows s rows spells = spelled_rows IsOther other_row s rows (other_word (codes ".") refl) spells

pub plain_rows : (s : Stimulus) (rows : List (List ℕ)) → Spells s rows → All IsPlain rows
plain_rows s rows spells = spelled_rows IsPlain plain_row s rows (plain_word (codes ".") refl refl) spells
