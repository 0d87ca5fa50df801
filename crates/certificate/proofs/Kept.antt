-- The lasso that is kept of a stimulus that is accepted.
use Rattle.std.proofs.Common.{◌≡◌, ℕ, ◌≤◌, ◌<◌, ◌^◌, Bool, List, [], ◌∷◌, ◌++◌, map, length, take, refl, sym, ap, subst, ◌∙◌, append_assoc, append-nil, Option, Some, Result, Ok, Err}
use Rattle.std.specs.Prelude.{codes, if◌then◌else◌, IfOk}
use Rattle.std.specs.Str.{bytes_eq}
use Rattle.std.proofs.lemmas.Bool.{lt-ltb}
use Rattle.std.proofs.lemmas.List.{length-take-le}
use Rattle.std.proofs.lemmas.Slice.Eq.{bytes_eq-Decides}
use Rattle.aig_semantics.specs.declared.traces.Stimulus.{Stimulus}
use Rattle.aig_semantics.specs.declared.traces.Lasso.{Lasso as LassoOf}
use Rattle.aig_semantics.specs.Circuits.{Circuit}
use Rattle.aig_semantics.specs.Stimuli.{StandsFor}
use Rattle.answer_lines.specs.Left.{Reading, left_of, most_bytes}
use Rattle.edge.specs.Told.{IfTold, MayBe}
use Rattle.stimulus.specs.Texts.{value_of, row_values, present}
use Rattle.certificate.specs.declared.ends.Accepted.{Accepted}
use Rattle.certificate.specs.declared.ends.Accepted.TheVariants.{Lasso, Holds}
use Rattle.certificate.specs.declared.ends.AnswerFault.TheVariants as faults
use Rattle.certificate.specs.declared.ends.AnswerEnd.{AnswerEnd}
use Rattle.certificate_texts.specs.Writing.{property_line}
use Rattle.certificate.specs.Answers.{IsGood}
use Rattle.certificate.specs.Ends.{IsGoodAtEnd}
use Rattle.certificate.specs.Lines.{Numbered, bare, kept_in, kept_readable}
use Rattle.certificate.specs.Reading.{HasLasso, State, Status, Property, Latches, Rows, Dotted, Stepped, property_step, claimed, latches_step, row_step, values_in, step, and_then, read_lines}
use Rattle.certificate.specs.Lassos.{lasso_of, KeepsLasso, UnlessStimulus, IsLassoAtEnd}
use Rattle.certificate.proofs.CompletingProofs.{heads}
use Rattle.certificate.proofs.CompletingTexts.{values_back, dot_has_none, no_dot, named}
use Rattle.certificate.proofs.GoodRead.{all_readable, good_from_reads}
use Rattle.certificate.proofs.Reached.{Reached, text_at_end}

-- ---- the lines of a stimulus lead to its end

stepped : (c : Circuit) (s t : State) (line : Numbered) (lines : List Numbered) (r : Stepped) → step c s line.0 line.1 ≡ Ok t → read_lines c t lines ≡ r
    → read_lines c s (line ∷ lines) ≡ r
stepped c s t line lines r e f = ap (λ (x : Stepped). and_then x (λ u. read_lines c u lines)) e ∙ f

no_front : {X : Type 0} → (x : X) (xs : List X) → [] ≡ xs ++ x ∷ [] → ⊥
no_front x [] e = cc
no_front x (y ∷ xs) e = cc

no_lines : (lines : List Numbered) → bare lines ≡ [] → lines ≡ []
no_lines [] e = refl
no_lines (line ∷ lines) e = absurd (cc e)

dot_step : (c : Circuit) (n : ℕ) (s : Stimulus) (number : ℕ) (line : List ℕ) → line ≡ codes "." → step c (Rows n s) number line ≡ Ok (Dotted n s)
dot_step c n s number line e = ap (λ t. if t then Ok (Dotted n s) else row_step n s number (values_in line)) ((bytes_eq-Decides line (codes ".")).1 e)

row_is_read : (c : Circuit) (n : ℕ) (s : Stimulus) (number : ℕ) (line : List ℕ) (values : List Bool) → map value_of line ≡ map Some values
    → step c (Rows n s) number line ≡ Ok (Rows n (record { latches = s.latches; inputs = s.inputs ++ values ∷ [] }))
row_is_read c n s number line values e =
    ap (λ t. if t then Ok (Dotted n s) else row_step n s number (values_in line)) (no_dot line (bytes_eq line (codes ".")) refl (dot_has_none line values e))
    ∙ ap (row_step n s number) (values_back line values e)

with_inputs : Stimulus → List (List Bool) → Stimulus
with_inputs s inputs = record { latches = s.latches; inputs = inputs }

rows_are_read : (c : Circuit) (n : ℕ) (s : Stimulus) (lines : List Numbered) (rows : List (List ℕ)) (inputs : List (List Bool)) → bare lines ≡ rows ++ codes "." ∷ []
    → row_values rows ≡ present inputs → read_lines c (Rows n s) lines ≡ Ok (Dotted n (with_inputs s (s.inputs ++ inputs)))
unfolding with_inputs
rows_are_read c n s [] rows inputs e f = absurd (no_front (codes ".") rows e)
rows_are_read c n s (line ∷ lines) [] [] e f =
    let parts = heads line.1 (codes ".") (bare lines) [] e in
    stepped c (Rows n s) (Dotted n s) line lines (Ok (Dotted n (with_inputs s (s.inputs ++ [])))) (dot_step c n s line.0 line.1 parts.0)
    (ap (λ (ls : List Numbered). read_lines c (Dotted n s) ls) (no_lines lines parts.1)
    ∙ ap (λ (xs : List (List Bool)). Ok (Dotted n (with_inputs s xs))) (sym (append-nil s.inputs)))
rows_are_read c n s (line ∷ lines) [] (values ∷ inputs) e f = absurd (cc f)
rows_are_read c n s (line ∷ lines) (row ∷ rows) [] e f = absurd (cc f)
rows_are_read c n s (line ∷ lines) (row ∷ rows) (values ∷ inputs) e f =
    let parts = heads line.1 row (bare lines) (rows ++ codes "." ∷ []) e in
    let both = heads (map value_of row) (map Some values) (row_values rows) (present inputs) f in
    let next = with_inputs s (s.inputs ++ values ∷ []) in
    stepped c (Rows n s) (Rows n next) line lines (Ok (Dotted n (with_inputs s (s.inputs ++ values ∷ inputs))))
    (row_is_read c n s line.0 line.1 values (ap (map value_of) parts.0 ∙ both.0))
    (rows_are_read c n next lines rows inputs parts.1 both.1
    ∙ ap (λ (xs : List (List Bool)). Ok (Dotted n (with_inputs s xs))) (append_assoc s.inputs (values ∷ []) inputs))

pub latches_are_read : (c : Circuit) (n : ℕ) (s : Stimulus) (lines : List Numbered) (rows : List (List ℕ)) → bare lines ≡ rows ++ codes "." ∷ []
    → row_values rows ≡ present (s.latches ∷ s.inputs) → read_lines c (Latches n) lines ≡ Ok (Dotted n s)
unfolding with_inputs
latches_are_read c n s lines [] e f = absurd (cc f)
latches_are_read c n s [] (row ∷ rows) e f = absurd (cc e)
latches_are_read c n s (line ∷ lines) (row ∷ rows) e f =
    let parts = heads line.1 row (bare lines) (rows ++ codes "." ∷ []) e in
    let both = heads (map value_of row) (map Some s.latches) (row_values rows) (present s.inputs) f in
    let begun = with_inputs s [] in
    stepped c (Latches n) (Rows n begun) line lines (Ok (Dotted n s))
    (ap (latches_step n line.0) (values_back line.1 s.latches (ap (map value_of) parts.0 ∙ both.0)))
    (rows_are_read c n begun lines rows s.inputs parts.1 both.1)

property_is_read : (c : Circuit) (n : ℕ) (s : Stimulus) (lines : List Numbered) (rows : List (List ℕ)) → n < 2 ^ 63 → n < length c.justice
    → bare lines ≡ property_line n ∷ (rows ++ codes "." ∷ []) → row_values rows ≡ present (s.latches ∷ s.inputs) → read_lines c (Property HasLasso) lines ≡ Ok (Dotted n s)
property_is_read c n s [] rows small there e f = absurd (cc e)
property_is_read c n s (line ∷ lines) rows small there e f =
    let parts = heads line.1 (property_line n) (bare lines) (rows ++ codes "." ∷ []) e in
    stepped c (Property HasLasso) (Latches n) line lines (Ok (Dotted n s))
    (ap (property_step c HasLasso line.0) (named line.1 n small parts.0)
    ∙ ap (λ t. if t then Ok (claimed HasLasso n) else Err (faults.NoProperty n)) (lt-ltb n (length c.justice) there))
    (latches_are_read c n s lines rows parts.1 f)

pub stimulus_is_read : (c : Circuit) (n : ℕ) (s : Stimulus) (lines : List Numbered) (rows : List (List ℕ)) → n < 2 ^ 63 → n < length c.justice
    → bare lines ≡ codes "1" ∷ property_line n ∷ (rows ++ codes "." ∷ []) → row_values rows ≡ present (s.latches ∷ s.inputs) → read_lines c Status lines ≡ Ok (Dotted n s)
stimulus_is_read c n s [] rows small there e f = absurd (cc e)
stimulus_is_read c n s (line ∷ lines) rows small there e f =
    let parts = heads line.1 (codes "1") (bare lines) (property_line n ∷ (rows ++ codes "." ∷ [])) e in
    stepped c Status (Property HasLasso) line lines (Ok (Dotted n s)) (ap (step c Status line.0) parts.0)
    (property_is_read c n s lines rows small there parts.1 f)

-- ---- what is kept

pub in_any_case : (result : Result Accepted AnswerEnd) (P : Type 0) → P → UnlessStimulus result P
in_any_case (Ok (Lasso n positions from)) P h = tt
in_any_case (Ok (Holds n entries)) P h = h
in_any_case (Err end) P h = h

pub same_state : (s t : State) (r : Stepped) → r ≡ Ok s → r ≡ Ok t → s ≡ t
same_state s t r e f = cc (e, f)

good_kept : (c : Circuit) (told : Option (List ℕ)) (text : List ℕ) (s : State) (kept : Option LassoOf) (accepted : Accepted) → MayBe told text
    → read_lines c Status (kept_readable text) ≡ Ok s → IsGood c text accepted → IsLassoAtEnd s accepted kept → KeepsLasso c told accepted kept
good_kept c told text s kept (Holds n entries) may read good at = tt
good_kept c told text s kept (Lasso n positions from) may read (there, short, stimulus, (others, (small, opens), (rows, spelled, values)), stands) at =
    let left : bare (kept_in text) ≡ codes "1" ∷ property_line n ∷ (rows ++ codes "." ∷ []) = opens ∙ ap (λ ls. codes "1" ∷ property_line n ∷ ls) spelled in
    let ended : read_lines c Status (kept_readable text) ≡ Ok (Dotted n stimulus) =
    ap (λ (ls : List Numbered). read_lines c Status ls) (all_readable text short)
    ∙ stimulus_is_read c n stimulus (kept_in text) rows small there left values in
    let same : s ≡ Dotted n stimulus = same_state s (Dotted n stimulus) (read_lines c Status (kept_readable text)) read ended in
    let is : kept ≡ Some (lasso_of stimulus positions from) = subst (λ (t : State). IsLassoAtEnd t (Lasso n positions from) kept) same at in
    let many : length (take positions stimulus.inputs) ≡ positions = length-take-le positions stimulus.inputs stands.has.inside in (
      text,
      may,
      lasso_of stimulus positions from,
      is,
      (
        there,
        short,
        stimulus,
        (others, (small, opens), (rows, spelled, values)),
        subst (λ k. StandsFor c n stimulus k from) (sym many) stands,
        ap (λ k. lasso_of stimulus k from) (sym many),
      ),
      many,
      refl,
    )

pub kept_at_end : (c : Circuit) (told : Option (List ℕ)) (r : Reading) (s : State) (number : ℕ) (kept : Option LassoOf) (result : Result Accepted AnswerEnd)
    → Reached c told r s number → r.taken ≤ most_bytes → IfTold told (λ text. left_of r text ≡ []) → IfOk result (λ accepted. IsGoodAtEnd c s accepted)
    → IfOk result (λ accepted. IsLassoAtEnd s accepted kept) → IfOk result (λ accepted. KeepsLasso c told accepted kept)
kept_at_end c told r s number kept (Err end) reached most none good at = tt
kept_at_end c told r s number kept (Ok accepted) reached most none good at =
    let found = text_at_end c told r s number reached most none in
    good_kept c told found.0 s kept accepted found.1 found.2.0 (good_from_reads c found.0 accepted (found.2.1, s, found.2.0, good)) at
