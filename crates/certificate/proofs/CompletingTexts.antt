-- One line in front of a certificate, or of a stimulus.
use Rattle.std.proofs.Common.{◌≡◌, inl, inr, ℕ, ◌<◌, ◌^◌, Bool, true, false, eqb, List, [], ◌∷◌, ◌++◌, map, length, refl, sym, ap, subst, ◌∙◌, append_assoc, append-nil, Some, None, Option, Ok, Err}
use Rattle.std.specs.Prelude.{if◌then◌else◌, nat_lt, codes}
use Rattle.std.specs.Str.{bytes_eq}
use Rattle.std.proofs.lemmas.Bool.{lt-ltb, ltb-true, eqb-true}
use Rattle.std.proofs.lemmas.Option.{same_Some, none-some}
use Rattle.std.proofs.lemmas.Slice.Eq.{bytes_eq-Decides}
use Rattle.aig_semantics.specs.declared.traces.Stimulus.{Stimulus}
use Rattle.aig_semantics.specs.Circuits.{Circuit}
use Rattle.stimulus.specs.Texts.{value_of, row_values, present}
use Rattle.certificate_lines.specs.declared.words.WordLine.{WordLine}
use Rattle.certificate_lines.specs.declared.words.WordLine.TheVariants as lines
use Rattle.certificate_lines.specs.Fields.{number_in}
use Rattle.certificate_lines.specs.Words.{word_line_text, word_line_of}
use Rattle.certificate_lines.proofs.FieldLaws.{number_given, number_back}
use Rattle.certificate_lines.proofs.WordLaws.{word_given_line, word_back}
use Rattle.certificate.specs.declared.ends.Accepted.{Accepted}
use Rattle.certificate.specs.declared.ends.AnswerFault.TheVariants as faults
use Rattle.certificate_texts.specs.Writing.{property_line}
use Rattle.certificate.specs.Reading.{Claim, HasLasso, HasNone, Status, Property, Rows, Dotted, Stepped, opens_other, other_status, status_step, property_in, claimed, property_step, version_step, with_value, values_in, latches_step, row_step, step}
use Rattle.certificate.specs.Ends.{IsGoodAtEnd}
use Rattle.certificate.proofs.Completing.{FromRows, FromLatches, FromVersion, Claims, FromProperty, Completes, After}
use Rattle.certificate.proofs.CompletingProofs.{heads}

-- ---- the values of a line

with_given : (o : Option Bool) (r : Option (List Bool)) (values : List Bool) → with_value o r ≡ Some values
    → (v : Bool) × (vs : List Bool) × (o ≡ Some v) × (r ≡ Some vs) × (v ∷ vs ≡ values)
with_given None r values e = absurd (none-some _ e)
with_given (Some v) None values e = absurd (none-some _ e)
with_given (Some v) (Some vs) values e = (v, vs, refl, refl, same_Some _ _ e)

pub values_given : (line : List ℕ) (values : List Bool) → values_in line ≡ Some values → map value_of line ≡ map Some values
values_given [] values e = ap (map Some) (same_Some _ _ e)
values_given (character ∷ line) values e =
    let (v, vs, first, later, same) = with_given (value_of character) (values_in line) values e in
    let others : map value_of line ≡ map Some vs = values_given line vs later in
    (λ j. first j ∷ others j) ∙ ap (map Some) same

pub values_back : (line : List ℕ) (values : List Bool) → map value_of line ≡ map Some values → values_in line ≡ Some values
values_back [] [] e = refl
values_back [] (v ∷ values) e = absurd (cc)
values_back (character ∷ line) [] e = absurd (cc)
values_back (character ∷ line) (v ∷ values) e =
    let both = heads (value_of character) (Some v) (map value_of line) (map Some values) e in
    let later : values_in line ≡ Some values = values_back line values both.1 in
    λ j. with_value (both.0 j) (later j)

pub dot_has_none : (line : List ℕ) (values : List Bool) → map value_of line ≡ map Some values → line ≡ codes "." → ⊥
dot_has_none line [] e dot = let wrong : map value_of (codes ".") ≡ [] = sym (ap (map value_of) dot) ∙ e in cc
dot_has_none line (v ∷ values) e dot =
    let both = heads None (Some v) [] (map Some values) (sym (ap (map value_of) dot) ∙ e) in none-some v both.0

pub no_dot : (line : List ℕ) (t : Bool) → bytes_eq line (codes ".") ≡ t → (line ≡ codes "." → ⊥) → t ≡ false
no_dot line true e other = absurd (other ((bytes_eq-Decides line (codes ".")).0 e))
no_dot line false e other = refl

-- ---- lines of a stimulus

module _ (c : Circuit) (n : ℕ) (a : Accepted) where
  abbrev EndsAs : List Bool → List (List Bool) → Type 0
  EndsAs latches inputs = IsGoodAtEnd c (Dotted n (record { latches = latches; inputs = inputs })) a

  abbrev row_after : Stimulus → ℕ → Bool → Option (List Bool) → Stepped
  row_after s number t values = if t then Ok (Dotted n s) else row_step n s number values

  no_row_left : (s : Stimulus) (inputs : List (List Bool)) → [] ≡ present inputs → EndsAs s.latches (s.inputs ++ inputs) → IsGoodAtEnd c (Dotted n s) a
  no_row_left s [] e end = subst (EndsAs s.latches) (append-nil s.inputs) end
  no_row_left s (row ∷ inputs) e end = absurd (cc)

  row_on_by : (s : Stimulus) (number : ℕ) (line : List ℕ) (left rows : List (List ℕ)) (inputs : List (List Bool)) → line ∷ left ≡ rows ++ codes "." ∷ []
      → row_values rows ≡ present inputs → EndsAs s.latches (s.inputs ++ inputs) → After c (row_after s number (bytes_eq line (codes ".")) (values_in line)) left a
  row_on_by s number line left [] inputs spelled values end =
      let parts = heads line (codes ".") left [] spelled in
      subst (λ l. After c (row_after s number (bytes_eq l (codes ".")) (values_in l)) left a) (sym parts.0) (parts.1, no_row_left s inputs values end)
  row_on_by s number line left (row ∷ rows) [] spelled values end = absurd (cc)
  row_on_by s number line left (row ∷ rows) (vs ∷ inputs) spelled values end =
      let parts = heads line row left (rows ++ codes "." ∷ []) spelled in
      let both = heads (map value_of row) (map Some vs) (row_values rows) (present inputs) values in
      let here : map value_of line ≡ map Some vs = ap (map value_of) parts.0 ∙ both.0 in
      let read : values_in line ≡ Some vs = values_back line vs here in
      let test : bytes_eq line (codes ".") ≡ false = no_dot line (bytes_eq line (codes ".")) refl (dot_has_none line vs here) in
      let rest : FromRows c n (record { latches = s.latches; inputs = s.inputs ++ vs ∷ [] }) left a = record {
        rows = rows;
        inputs = inputs;
        spelled = parts.1;
        values = both.1;
        end = subst (EndsAs s.latches) (sym (append_assoc s.inputs (vs ∷ []) inputs)) end;
      }
      in
      subst (λ t. After c (row_after s number t (values_in line)) left a) (sym test) (subst (λ o. After c (row_step n s number o) left a) (sym read) rest)

  pub row_on : (s : Stimulus) (number : ℕ) (line : List ℕ) (left : List (List ℕ)) → FromRows c n s (line ∷ left) a → After c (step c (Rows n s) number line) left a
  row_on s number line left h = row_on_by s number line left h.rows h.inputs h.spelled h.values h.end

  row_read : (s : Stimulus) (number : ℕ) (line : List ℕ) (left : List (List ℕ)) (o : Option (List Bool)) → values_in line ≡ o → After c (row_step n s number o) left a
      → FromRows c n s (line ∷ left) a
  row_read s number line left (Some vs) is h =
      let rest : FromRows c n (record { latches = s.latches; inputs = s.inputs ++ vs ∷ [] }) left a = h in
      let first : map value_of line ≡ map Some vs = values_given line vs is in
      record {
        rows = line ∷ rest.rows;
        inputs = vs ∷ rest.inputs;
        spelled = ap (λ ls. line ∷ ls) rest.spelled;
        values = λ j. first j ∷ rest.values j;
        end = subst (EndsAs s.latches) (append_assoc s.inputs (vs ∷ []) rest.inputs) rest.end;
      }
  row_read s number line left None is h = absurd h

  row_from : (s : Stimulus) (number : ℕ) (line : List ℕ) (left : List (List ℕ)) (t : Bool) → bytes_eq line (codes ".") ≡ t
      → After c (row_after s number t (values_in line)) left a → FromRows c n s (line ∷ left) a
  row_from s number line left true is h =
      let dot : line ≡ codes "." = (bytes_eq-Decides line (codes ".")).0 is in
      record {
        rows = [];
        inputs = [];
        spelled = λ j. dot j ∷ h.0 j;
        values = refl;
        end = subst (EndsAs s.latches) (sym (append-nil s.inputs)) h.1;
      }
  row_from s number line left false is h = row_read s number line left (values_in line) refl h

  pub row_back : (s : Stimulus) (number : ℕ) (line : List ℕ) (left : List (List ℕ)) → After c (step c (Rows n s) number line) left a → FromRows c n s (line ∷ left) a
  row_back s number line left h = row_from s number line left (bytes_eq line (codes ".")) refl h

  latches_on_by : (number : ℕ) (line : List ℕ) (left rows : List (List ℕ)) (s : Stimulus) → line ∷ left ≡ rows ++ codes "." ∷ []
      → row_values rows ≡ present (s.latches ∷ s.inputs) → IsGoodAtEnd c (Dotted n s) a → After c (latches_step n number (values_in line)) left a
  latches_on_by number line left [] s spelled values end = absurd (cc)
  latches_on_by number line left (row ∷ rows) s spelled values end =
      let parts = heads line row left (rows ++ codes "." ∷ []) spelled in
      let both = heads (map value_of row) (map Some s.latches) (row_values rows) (present s.inputs) values in
      let read : values_in line ≡ Some s.latches = values_back line s.latches (ap (map value_of) parts.0 ∙ both.0) in
      let rest : FromRows c n (record { latches = s.latches; inputs = [] }) left a = record { rows = rows; inputs = s.inputs; spelled = parts.1; values = both.1; end = end } in
      subst (λ o. After c (latches_step n number o) left a) (sym read) rest

  pub latches_on : (number : ℕ) (line : List ℕ) (left : List (List ℕ)) → FromLatches c n (line ∷ left) a → After c (latches_step n number (values_in line)) left a
  latches_on number line left h = latches_on_by number line left h.rows h.stimulus h.spelled h.values h.end

  latches_from : (number : ℕ) (line : List ℕ) (left : List (List ℕ)) (o : Option (List Bool)) → values_in line ≡ o → After c (latches_step n number o) left a
      → FromLatches c n (line ∷ left) a
  latches_from number line left (Some vs) is h =
      let rest : FromRows c n (record { latches = vs; inputs = [] }) left a = h in
      let first : map value_of line ≡ map Some vs = values_given line vs is in
      record {
        rows = line ∷ rest.rows;
        stimulus = record { latches = vs; inputs = rest.inputs };
        spelled = ap (λ ls. line ∷ ls) rest.spelled;
        values = λ j. first j ∷ rest.values j;
        end = rest.end;
      }
  latches_from number line left None is h = absurd h

  pub latches_back : (number : ℕ) (line : List ℕ) (left : List (List ℕ)) → After c (latches_step n number (values_in line)) left a → FromLatches c n (line ∷ left) a
  latches_back number line left h = latches_from number line left (values_in line) refl h

  -- ---- the version

  pub version_on : (number : ℕ) (line : List ℕ) (left : List (List ℕ)) → FromVersion c n (line ∷ left) a → After c (version_step n number (word_line_of line)) left a
  version_on number line left h =
      let parts = heads line (word_line_text (lines.Version h.version)) left h.rest h.spelled in
      let read : word_line_of line ≡ Some (lines.Version h.version) = word_back line (lines.Version h.version) (record { numbers = tt; spelled = parts.0 }) in
      subst (λ o. After c (version_step n number o) left a) (sym read)
      (subst (λ ls. After c (version_step n number (Some (lines.Version h.version))) ls a) (sym parts.1) h.others)

  version_from : (number : ℕ) (line : List ℕ) (left : List (List ℕ)) (o : Option WordLine) → word_line_of line ≡ o → After c (version_step n number o) left a
      → FromVersion c n (line ∷ left) a
  version_from number line left (Some (lines.Version v)) is h =
      record { version = v; rest = left; spelled = ap (λ l. l ∷ left) (word_given_line line (lines.Version v) is).spelled; others = h }
  version_from number line left (Some (lines.Opening o)) is h = absurd h
  version_from number line left (Some (lines.Proof count)) is h = absurd h
  version_from number line left (Some (lines.Refutation r)) is h = absurd h
  version_from number line left (Some lines.End) is h = absurd h
  version_from number line left None is h = absurd h

  pub version_back : (number : ℕ) (line : List ℕ) (left : List (List ℕ)) → After c (version_step n number (word_line_of line)) left a → FromVersion c n (line ∷ left) a
  version_back number line left h = version_from number line left (word_line_of line) refl h

-- ---- the line of the property

pub named : (line : List ℕ) (n : ℕ) → n < 2 ^ 63 → line ≡ property_line n → property_in line ≡ Some n
named line n small e = ap property_in e ∙ number_back n small

name_by : (byte : ℕ) (digits : List ℕ) (n : ℕ) (t : Bool) → eqb byte 106 ≡ t → (if t then number_in digits else None) ≡ Some n
    → (n < 2 ^ 63) × (byte ∷ digits ≡ property_line n)
name_by byte digits n true test e =
    let read = number_given digits n e in
    let first : byte ≡ 106 = eqb-true byte 106 test in
    (read.0, λ j. first j ∷ read.1 j)
name_by byte digits n false test e = absurd (none-some n e)

pub name_of : (line : List ℕ) (n : ℕ) → property_in line ≡ Some n → (n < 2 ^ 63) × (line ≡ property_line n)
name_of [] n e = absurd (none-some n e)
name_of (byte ∷ digits) n e = name_by byte digits n (eqb byte 106) refl e

module _ (c : Circuit) (a : Accepted) where
  claims_on : (claim : Claim) (n : ℕ) (left : List (List ℕ)) → Claims c claim n left a → After c (Ok (claimed claim n)) left a
  claims_on HasLasso n left h = h
  claims_on HasNone n left h = h

  claims_back : (claim : Claim) (n : ℕ) (left : List (List ℕ)) → After c (Ok (claimed claim n)) left a → Claims c claim n left a
  claims_back HasLasso n left h = h
  claims_back HasNone n left h = h

  pub property_on : (claim : Claim) (number : ℕ) (line : List ℕ) (left : List (List ℕ)) → FromProperty c claim (line ∷ left) a
      → After c (property_step c claim number (property_in line)) left a
  property_on claim number line left h =
      let parts = heads line (property_line h.property) left h.rest h.spelled in
      let test : nat_lt h.property (length c.justice) ≡ true = lt-ltb h.property (length c.justice) h.there in
      subst (λ o. After c (property_step c claim number o) left a) (sym (named line h.property h.small parts.0))
      (subst (λ t. After c (if t then Ok (claimed claim h.property) else Err (faults.NoProperty h.property)) left a) (sym test)
      (claims_on claim h.property left (subst (λ ls. Claims c claim h.property ls a) (sym parts.1) h.others)))

  property_there : (claim : Claim) (line : List ℕ) (left : List (List ℕ)) (n : ℕ) → property_in line ≡ Some n → (t : Bool) → nat_lt n (length c.justice) ≡ t
      → After c (if t then Ok (claimed claim n) else Err (faults.NoProperty n)) left a → FromProperty c claim (line ∷ left) a
  property_there claim line left n is true test h =
      let name = name_of line n is in
      record {
        property = n;
        rest = left;
        small = name.0;
        there = ltb-true n (length c.justice) test;
        spelled = ap (λ l. l ∷ left) name.1;
        others = claims_back claim n left h;
      }
  property_there claim line left n is false test h = absurd h

  property_from : (claim : Claim) (number : ℕ) (line : List ℕ) (left : List (List ℕ)) (o : Option ℕ) → property_in line ≡ o
      → After c (property_step c claim number o) left a → FromProperty c claim (line ∷ left) a
  property_from claim number line left (Some n) is h = property_there claim line left n is (nat_lt n (length c.justice)) refl h
  property_from claim number line left None is h = absurd h

  pub property_back : (claim : Claim) (number : ℕ) (line : List ℕ) (left : List (List ℕ)) → After c (property_step c claim number (property_in line)) left a
      → FromProperty c claim (line ∷ left) a
  property_back claim number line left h = property_from claim number line left (property_in line) refl h

  -- ---- the status

  pub status_on : (number : ℕ) (line : List ℕ) (left : List (List ℕ)) → Completes c Status (line ∷ left) a → After c (status_step number line) left a
  status_on number line left (inl h) =
      let parts = heads line (codes "1") left h.rest h.spelled in
      subst (λ l. After c (status_step number l) left a) (sym parts.0) (subst (λ ls. FromProperty c HasLasso ls a) (sym parts.1) h.others)
  status_on number line left (inr h) =
      let parts = heads line (codes "0") left h.rest h.spelled in
      subst (λ l. After c (status_step number l) left a) (sym parts.0) (subst (λ ls. FromProperty c HasNone ls a) (sym parts.1) h.others)

  no_status : (number : ℕ) (left : List (List ℕ)) (t : Bool) → After c (other_status number t) left a → ⊥
  no_status number left true h = h
  no_status number left false h = h

  unknown_status : (number : ℕ) (left : List (List ℕ)) (t rounds : Bool) → After c (if t then Err faults.UnknownStatus else other_status number rounds) left a → ⊥
  unknown_status number left true rounds h = h
  unknown_status number left false rounds h = no_status number left rounds h

  zero_status : (number : ℕ) (line : List ℕ) (left : List (List ℕ)) (t : Bool) → bytes_eq line (codes "0") ≡ t
      → After c (if t then Ok (Property HasNone) else if bytes_eq line (codes "2") then Err faults.UnknownStatus else other_status number (opens_other line)) left a
      → Completes c Status (line ∷ left) a
  zero_status number line left true is h = inr (record { rest = left; spelled = ap (λ l. l ∷ left) ((bytes_eq-Decides line (codes "0")).0 is); others = h })
  zero_status number line left false is h = absurd (unknown_status number left (bytes_eq line (codes "2")) (opens_other line) h)

  one_status : (number : ℕ) (line : List ℕ) (left : List (List ℕ)) (t : Bool) → bytes_eq line (codes "1") ≡ t
      → After c (if t then Ok (Property HasLasso) else if bytes_eq line (codes "0") then Ok (Property HasNone) else if bytes_eq line (codes "2") then Err faults.UnknownStatus else other_status number (opens_other line)) left a
      → Completes c Status (line ∷ left) a
  one_status number line left true is h = inl (record { rest = left; spelled = ap (λ l. l ∷ left) ((bytes_eq-Decides line (codes "1")).0 is); others = h })
  one_status number line left false is h = zero_status number line left (bytes_eq line (codes "0")) refl h

  pub status_back : (number : ℕ) (line : List ℕ) (left : List (List ℕ)) → After c (status_step number line) left a → Completes c Status (line ∷ left) a
  status_back number line left h = one_status number line left (bytes_eq line (codes "1")) refl h
