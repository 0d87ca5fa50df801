-- One line of a stimulus, with what follows its dot.
use Rattle.std.proofs.Common.{◌≡◌, ℕ, Bool, true, false, List, [], ◌∷◌, ◌++◌, map, refl, sym, ap, subst, ◌∙◌, append_assoc, append-nil, Some, None, Option, Ok, Err}
use Rattle.std.specs.Prelude.{codes, if◌then◌else◌}
use Rattle.std.specs.Str.{bytes_eq}
use Rattle.std.proofs.lemmas.Slice.Eq.{bytes_eq-Decides}
use Rattle.aig_semantics.specs.declared.traces.Stimulus.{Stimulus}
use Rattle.aig_semantics.specs.Circuits.{Circuit}
use Rattle.stimulus.specs.Texts.{value_of, row_values, present}
use Rattle.certificate.specs.Reading.{State, Latches, Rows, Dotted, Stepped, values_in, latches_step, row_step, step}
use Rattle.certificate.proofs.CompletingProofs.{heads}
use Rattle.certificate.proofs.CompletingTexts.{values_given, values_back, dot_has_none, no_dot}

-- the rows of the inputs from a position on, the dot, and what follows it
pub record FromRows (s : Stimulus) (left : List (List ℕ)) (K : Stimulus → List (List ℕ) → Type 0) : Type 0 where
  pub rows : List (List ℕ)
  pub rest : List (List ℕ)
  pub inputs : List (List Bool)
  pub spelled : left ≡ rows ++ codes "." ∷ rest
  pub values : row_values rows ≡ present inputs
  pub others : K (record { latches = s.latches; inputs = s.inputs ++ inputs }) rest

-- the row of the latches, those of the inputs, the dot, and what follows it
pub record FromLatches (left : List (List ℕ)) (K : Stimulus → List (List ℕ) → Type 0) : Type 0 where
  pub rows : List (List ℕ)
  pub rest : List (List ℕ)
  pub stimulus : Stimulus
  pub spelled : left ≡ rows ++ codes "." ∷ rest
  pub values : row_values rows ≡ present (stimulus.latches ∷ stimulus.inputs)
  pub others : K stimulus rest

-- what a stimulus for property n wants next, as the text has it
abbrev pub Shows : ℕ → State → List (List ℕ) → (Stimulus → List (List ℕ) → Type 0) → Type 0
Shows n (Latches m) left K = (m ≡ n) × FromLatches left K
Shows n (Rows m s) left K = (m ≡ n) × FromRows s left K
Shows n (Dotted m s) left K = (m ≡ n) × K s left
Shows n _ left K = ⊥

-- the same where a line of it is read
abbrev pub Rowing : ℕ → State → List (List ℕ) → (Stimulus → List (List ℕ) → Type 0) → Type 0
Rowing n (Latches m) left K = (m ≡ n) × FromLatches left K
Rowing n (Rows m s) left K = (m ≡ n) × FromRows s left K
Rowing n _ left K = ⊥

abbrev pub ShowsAfter : ℕ → Stepped → List (List ℕ) → (Stimulus → List (List ℕ) → Type 0) → Type 0
ShowsAfter n (Ok s) left K = Shows n s left K
ShowsAfter n (Err fault) left K = ⊥

module _ (c : Circuit) (n : ℕ) (K : Stimulus → List (List ℕ) → Type 0) where
  abbrev Behind : List Bool → List (List Bool) → List (List ℕ) → Type 0
  Behind latches inputs rest = K (record { latches = latches; inputs = inputs }) rest

  abbrev row_after : Stimulus → ℕ → Bool → Option (List Bool) → Stepped
  row_after s number t values = if t then Ok (Dotted n s) else row_step n s number values

  no_row_left : (s : Stimulus) (inputs : List (List Bool)) (rest : List (List ℕ)) → [] ≡ present inputs → Behind s.latches (s.inputs ++ inputs) rest → K s rest
  no_row_left s [] rest e others = subst (λ xs. Behind s.latches xs rest) (append-nil s.inputs) others
  no_row_left s (row ∷ inputs) rest e others = absurd (cc)

  row_on_by : (s : Stimulus) (number : ℕ) (line : List ℕ) (left rows rest : List (List ℕ)) (inputs : List (List Bool)) → line ∷ left ≡ rows ++ codes "." ∷ rest
      → row_values rows ≡ present inputs → Behind s.latches (s.inputs ++ inputs) rest → ShowsAfter n (row_after s number (bytes_eq line (codes ".")) (values_in line)) left K
  row_on_by s number line left [] rest inputs spelled values others =
      let parts = heads line (codes ".") left rest spelled in
      subst (λ l. ShowsAfter n (row_after s number (bytes_eq l (codes ".")) (values_in l)) left K) (sym parts.0)
      (refl, subst (K s) (sym parts.1) (no_row_left s inputs rest values others))
  row_on_by s number line left (row ∷ rows) rest [] spelled values others = absurd (cc)
  row_on_by s number line left (row ∷ rows) rest (vs ∷ inputs) spelled values others =
      let parts = heads line row left (rows ++ codes "." ∷ rest) spelled in
      let both = heads (map value_of row) (map Some vs) (row_values rows) (present inputs) values in
      let here : map value_of line ≡ map Some vs = ap (map value_of) parts.0 ∙ both.0 in
      let read : values_in line ≡ Some vs = values_back line vs here in
      let test : bytes_eq line (codes ".") ≡ false = no_dot line (bytes_eq line (codes ".")) refl (dot_has_none line vs here) in
      let more : FromRows (record { latches = s.latches; inputs = s.inputs ++ vs ∷ [] }) left K = record {
        rows = rows;
        rest = rest;
        inputs = inputs;
        spelled = parts.1;
        values = both.1;
        others = subst (λ xs. Behind s.latches xs rest) (sym (append_assoc s.inputs (vs ∷ []) inputs)) others;
      }
      in
      subst (λ t. ShowsAfter n (row_after s number t (values_in line)) left K) (sym test) (subst (λ o. ShowsAfter n (row_step n s number o) left K) (sym read) (refl, more))

  pub row_on : (s : Stimulus) (number : ℕ) (line : List ℕ) (left : List (List ℕ)) → FromRows s (line ∷ left) K → ShowsAfter n (step c (Rows n s) number line) left K
  row_on s number line left h = row_on_by s number line left h.rows h.rest h.inputs h.spelled h.values h.others

  row_read : (s : Stimulus) (number : ℕ) (line : List ℕ) (left : List (List ℕ)) (o : Option (List Bool)) → values_in line ≡ o → ShowsAfter n (row_step n s number o) left K
      → FromRows s (line ∷ left) K
  row_read s number line left (Some vs) is (same, h) =
      let more : FromRows (record { latches = s.latches; inputs = s.inputs ++ vs ∷ [] }) left K = h in
      let first : map value_of line ≡ map Some vs = values_given line vs is in
      record {
        rows = line ∷ more.rows;
        rest = more.rest;
        inputs = vs ∷ more.inputs;
        spelled = ap (λ ls. line ∷ ls) more.spelled;
        values = λ j. first j ∷ more.values j;
        others = subst (λ xs. Behind s.latches xs more.rest) (append_assoc s.inputs (vs ∷ []) more.inputs) more.others;
      }
  row_read s number line left None is h = absurd h

  row_from : (s : Stimulus) (number : ℕ) (line : List ℕ) (left : List (List ℕ)) (t : Bool) → bytes_eq line (codes ".") ≡ t
      → ShowsAfter n (row_after s number t (values_in line)) left K → FromRows s (line ∷ left) K
  row_from s number line left true is (same, h) =
      let dot : line ≡ codes "." = (bytes_eq-Decides line (codes ".")).0 is in
      record {
        rows = [];
        rest = left;
        inputs = [];
        spelled = ap (λ l. l ∷ left) dot;
        values = refl;
        others = subst (λ xs. Behind s.latches xs left) (sym (append-nil s.inputs)) h;
      }
  row_from s number line left false is h = row_read s number line left (values_in line) refl h

  pub row_back : (s : Stimulus) (number : ℕ) (line : List ℕ) (left : List (List ℕ)) → ShowsAfter n (step c (Rows n s) number line) left K → FromRows s (line ∷ left) K
  row_back s number line left h = row_from s number line left (bytes_eq line (codes ".")) refl h

  latches_on_by : (number : ℕ) (line : List ℕ) (left rows rest : List (List ℕ)) (s : Stimulus) → line ∷ left ≡ rows ++ codes "." ∷ rest
      → row_values rows ≡ present (s.latches ∷ s.inputs) → K s rest → ShowsAfter n (latches_step n number (values_in line)) left K
  latches_on_by number line left [] rest s spelled values others = absurd (cc)
  latches_on_by number line left (row ∷ rows) rest s spelled values others =
      let parts = heads line row left (rows ++ codes "." ∷ rest) spelled in
      let both = heads (map value_of row) (map Some s.latches) (row_values rows) (present s.inputs) values in
      let read : values_in line ≡ Some s.latches = values_back line s.latches (ap (map value_of) parts.0 ∙ both.0) in
      let more : FromRows (record { latches = s.latches; inputs = [] }) left K =
      record { rows = rows; rest = rest; inputs = s.inputs; spelled = parts.1; values = both.1; others = others } in
      subst (λ o. ShowsAfter n (latches_step n number o) left K) (sym read) (refl, more)

  pub latches_on : (number : ℕ) (line : List ℕ) (left : List (List ℕ)) → FromLatches (line ∷ left) K → ShowsAfter n (latches_step n number (values_in line)) left K
  latches_on number line left h = latches_on_by number line left h.rows h.rest h.stimulus h.spelled h.values h.others

  latches_from : (number : ℕ) (line : List ℕ) (left : List (List ℕ)) (o : Option (List Bool)) → values_in line ≡ o → ShowsAfter n (latches_step n number o) left K
      → FromLatches (line ∷ left) K
  latches_from number line left (Some vs) is (same, h) =
      let more : FromRows (record { latches = vs; inputs = [] }) left K = h in
      let first : map value_of line ≡ map Some vs = values_given line vs is in
      record {
        rows = line ∷ more.rows;
        rest = more.rest;
        stimulus = record { latches = vs; inputs = more.inputs };
        spelled = ap (λ ls. line ∷ ls) more.spelled;
        values = λ j. first j ∷ more.values j;
        others = more.others;
      }
  latches_from number line left None is h = absurd h

  pub latches_back : (number : ℕ) (line : List ℕ) (left : List (List ℕ)) → ShowsAfter n (latches_step n number (values_in line)) left K → FromLatches (line ∷ left) K
  latches_back number line left h = latches_from number line left (values_in line) refl h
