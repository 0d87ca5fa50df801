-- A text that is read to a limit, and one byte more where it is longer.
use Rattle.std.proofs.Common.{◌≡◌, ℕ, ◌+◌, ◌<◌, ◌≤◌, ◌⊎◌, min, List, length, take, Some, Ok, Err, refl, sym, ◌∙◌, ap, subst, arith, inl, inr, ltb}
use Rattle.std.specs.Prelude.{Option, None, Result, Bool, true, false, codes}
use Rattle.std.proofs.lemmas.Bool.{lt-ltb, ltb-false, ltb-true}
use Rattle.std.specs.Bool.{Decides}
use Rattle.std.proofs.lemmas.List.{length-take, take_all, take-take}
use Rattle.std.proofs.lemmas.Slice.Eq.{bytes_eq-Decides}
use Rattle.edge.specs.Told.{IfTold, MayBe}
use Rattle.aig_semantics.specs.declared.limits.TheConstants.{MAX_MODEL_BYTES}
use Rattle.aiger_grammar.specs.Models.{Model}
use Rattle.aiger_grammar.specs.BothForms.{SameFault}
use Rattle.std.specs.Str.{bytes_eq}
use Rattle.aiger_grammar.specs.BothForms.{IsFirstFault}
use Rattle.aiger_grammar.specs.AsciiTexts.{ascii_at}
use Rattle.aiger_grammar.specs.BinaryTexts.{binary_at}
use Rattle.circuit.specs.declared.faults.ModelEnd.{ModelEnd}
use Rattle.circuit.specs.declared.faults.ModelEnd.TheVariants.{Fault, Memory}
use Rattle.circuit.specs.declared.faults.ModelFault.{ModelFault}
use Rattle.circuit.specs.declared.faults.ModelFault.TheVariants.{Limit}
use Rattle.plain_commands.specs.ModelTexts.{is_binary, IsTextIn, HasFaultIn, IsModelText, IsBadModel}
use Rattle.plain_commands.specs.Judged.{IsModelOf, IsFaultOf}

-- a text within the limit is read whole
pub whole : (limit : ℕ) (read text : List ℕ) → read ≡ take (limit + 1) text → length text ≤ limit → read ≡ text
whole limit read text e le = e ∙ take_all (limit + 1) text (omega arith)

-- and so is one of which no more than the limit was read
pub whole_read : (limit : ℕ) (read text : List ℕ) → read ≡ take (limit + 1) text → length read ≤ limit → read ≡ text
whole_read limit read text e le =
    let n : length read ≡ min (limit + 1) (length text) = ap length e ∙ length-take (limit + 1) text in
    whole limit read text e (omega arith)

-- ---- the form of a text

-- two tests of one fact
same_test : (P : Type 0) (r t : Bool) → Decides r P → Decides t P → r ≡ t
same_test P true true d e = refl
same_test P false false d e = refl
same_test P true false d e = sym (e.1 (d.0 refl))
same_test P false true d e = d.1 (e.0 refl)

-- bytes that are tested for a word
pub tested : (r : Bool) (front word : List ℕ) → Decides r (front ≡ word) → r ≡ bytes_eq front word
tested r front word d = same_test (front ≡ word) r (bytes_eq front word) d (bytes_eq-Decides front word)

-- a text of less than two bytes is in ASCII
pub short_form : (bytes : List ℕ) → length bytes < 2 → false ≡ is_binary bytes
short_form bytes short = by (is_binary bytes) refl
  where
    by : (b : Bool) → is_binary bytes ≡ b → false ≡ is_binary bytes
    by false e = sym e
    by true e =
        let same : take 2 bytes ≡ codes "ai" = (bytes_eq-Decides (take 2 bytes) (codes "ai")).0 e in
        absurd (omega (arith, short, ap length same, length-take 2 bytes))

-- ---- its length

-- a text that is too long has that fault
long_ascii : (text : List ℕ) → MAX_MODEL_BYTES < length text → ascii_at text ≡ Err (Limit MAX_MODEL_BYTES)
unfolding ascii_at
long_ascii text long = let test = lt-ltb MAX_MODEL_BYTES (length text) long in rw test

long_binary : (text : List ℕ) → MAX_MODEL_BYTES < length text → binary_at text ≡ Err (Limit MAX_MODEL_BYTES)
unfolding binary_at
long_binary text long = let test = lt-ltb MAX_MODEL_BYTES (length text) long in rw test

-- what was read of a text reads as the text does
module _ {X : Type 0} (reading : List ℕ → X) (limit : X) (at_limit : (text : List ℕ) → MAX_MODEL_BYTES < length text → reading text ≡ limit) where
  same_by : (read text : List ℕ) (long : Bool) → ltb MAX_MODEL_BYTES (length text) ≡ long → read ≡ take (MAX_MODEL_BYTES + 1) text → reading read ≡ reading text
  same_by read text false test e = ap reading (whole MAX_MODEL_BYTES read text e (ltb-false MAX_MODEL_BYTES (length text) test))
  same_by read text true test e =
      let long : MAX_MODEL_BYTES < length text = ltb-true MAX_MODEL_BYTES (length text) test in
      let n : length read ≡ min (MAX_MODEL_BYTES + 1) (length text) = ap length e ∙ length-take (MAX_MODEL_BYTES + 1) text in
      at_limit read (omega arith) ∙ sym (at_limit text long)

  same_reading : (read text : List ℕ) → read ≡ take (MAX_MODEL_BYTES + 1) text → reading read ≡ reading text
  same_reading read text e = same_by read text (ltb MAX_MODEL_BYTES (length text)) refl e

fault_in : (binary : Bool) (read text : List ℕ) (fault : ModelFault) → read ≡ take (MAX_MODEL_BYTES + 1) text → HasFaultIn binary text fault → HasFaultIn binary read fault
fault_in true read text fault e bad =
    subst (λ (r : Result _ ModelFault). IsFirstFault r fault) (sym (same_reading binary_at (Err (Limit MAX_MODEL_BYTES)) long_binary read text e)) bad
fault_in false read text fault e bad =
    subst (λ (r : Result _ ModelFault). IsFirstFault r fault) (sym (same_reading ascii_at (Err (Limit MAX_MODEL_BYTES)) long_ascii read text e)) bad

read_in : (binary : Bool) (read text : List ℕ) (fault : ModelFault) → read ≡ take (MAX_MODEL_BYTES + 1) text → HasFaultIn binary read fault → HasFaultIn binary text fault
read_in true read text fault e bad =
    subst (λ (r : Result _ ModelFault). IsFirstFault r fault) (same_reading binary_at (Err (Limit MAX_MODEL_BYTES)) long_binary read text e) bad
read_in false read text fault e bad =
    subst (λ (r : Result _ ModelFault). IsFirstFault r fault) (same_reading ascii_at (Err (Limit MAX_MODEL_BYTES)) long_ascii read text e) bad

-- and has its form
same_form : (read text : List ℕ) → read ≡ take (MAX_MODEL_BYTES + 1) text → is_binary read ≡ is_binary text
same_form read text e = ap is_binary e ∙ ap (λ front. bytes_eq front (codes "ai")) (take-take 2 (MAX_MODEL_BYTES + 1) text (omega arith))

fault_read : (read text : List ℕ) (fault : ModelFault) → read ≡ take (MAX_MODEL_BYTES + 1) text → IsBadModel text fault → IsBadModel read fault
fault_read read text fault e bad =
    subst (λ (b : Bool). HasFaultIn b read fault) (sym (same_form read text e)) (fault_in (is_binary text) read text fault e bad)

read_fault : (read text : List ℕ) (fault : ModelFault) → read ≡ take (MAX_MODEL_BYTES + 1) text → IsBadModel read fault → IsBadModel text fault
read_fault read text fault e bad =
    subst (λ (b : Bool). HasFaultIn b text fault) (same_form read text e) (read_in (is_binary read) read text fault e bad)

short_in : (binary : Bool) (m : Model) (text : List ℕ) → IsTextIn binary m text → length text ≤ MAX_MODEL_BYTES
short_in true m text h = h.short
short_in false m text h = h.short

short_text : (m : Model) (text : List ℕ) → IsModelText m text → length text ≤ MAX_MODEL_BYTES
short_text m text h = short_in (is_binary text) m text h

-- a model that is given is the only one that is
pub one_given : (m n : Model) → (◌≡◌ {A = Result Model ModelEnd} (Ok m) (Ok n)) ⊎ (◌≡◌ {A = Result Model ModelEnd} (Ok m) (Err Memory)) → m ≡ n
one_given m n h = elim h [ inl e ↦ cc | inr e ↦ cc ]

-- and where one is given, no fault is
pub no_fault_given : (m : Model) (fault : ModelFault)
    → ((found : ModelFault) × (◌≡◌ {A = Result Model ModelEnd} (Ok m) (Err (Fault found))) × SameFault found fault) ⊎ (◌≡◌ {A = Result Model ModelEnd} (Ok m) (Err Memory)) → ⊥
no_fault_given m fault h = elim h [ inl e ↦ (let wrong = e.1 in cc) | inr e ↦ cc ]

-- where a fault is given, no model is
pub no_model_given : (m : Model) (fault : ModelFault)
    → (◌≡◌ {A = Result Model ModelEnd} (Err (Fault fault)) (Ok m)) ⊎ (◌≡◌ {A = Result Model ModelEnd} (Err (Fault fault)) (Err Memory)) → ⊥
no_model_given m fault h = elim h [ inl e ↦ cc | inr e ↦ cc ]

same_err : (f g : ModelFault) → ◌≡◌ {A = Result Model ModelEnd} (Err (Fault f)) (Err (Fault g)) → f ≡ g
same_err f g e = cc

-- and no other fault
pub same_given : (fault other : ModelFault)
    → ((found : ModelFault) × (◌≡◌ {A = Result Model ModelEnd} (Err (Fault fault)) (Err (Fault found))) × SameFault found other) ⊎ (◌≡◌ {A = Result Model ModelEnd} (Err (Fault fault)) (Err Memory)) → SameFault fault other
same_given fault other h =
    elim h [ inl e ↦ subst (λ (f : ModelFault). SameFault f other) (sym (same_err fault e.0 e.1)) e.2 | inr e ↦ (let wrong = e in absurd (cc)) ]

pub model_read : (told : Option (List ℕ)) (read : List ℕ) (m : Model) → IfTold told (λ text. read ≡ take (MAX_MODEL_BYTES + 1) text)
    → IsModelText m read → ((n : Model) → IsModelText n read → m ≡ n) → ((fault : ModelFault) → IsBadModel read fault → ⊥) → IsModelOf told m
model_read told read m is form one none = record {
  text = (read, (λ text e. sym (whole_read MAX_MODEL_BYTES read text (is text e) (short_text m read form))), form);
  one = λ text n e h. one n (subst (IsModelText n) (sym (whole MAX_MODEL_BYTES read text (is text e) (short_text n text h))) h);
  faultless = λ text fault e bad. none fault (fault_read read text fault (is text e) bad);
}

-- a text that is told is the one that it is told to be
one_told : (text other : List ℕ) → ◌≡◌ {A = Option (List ℕ)} (Some text) (Some other) → other ≡ text
one_told text other e = cc

bad_text : (told : Option (List ℕ)) (read : List ℕ) (fault : ModelFault) → IfTold told (λ text. read ≡ take (MAX_MODEL_BYTES + 1) text)
    → IsBadModel read fault → (text : List ℕ) × MayBe told text × IsBadModel text fault
bad_text None read fault is bad = (read, (λ text e. (let wrong : ◌≡◌ {A = Option (List ℕ)} None (Some text) = e in cc)), bad)
bad_text (Some text) read fault is bad = (text, (λ other e. one_told text other e), read_fault read text fault (is text refl) bad)

pub fault_given : (told : Option (List ℕ)) (read : List ℕ) (fault : ModelFault) → IfTold told (λ text. read ≡ take (MAX_MODEL_BYTES + 1) text)
    → IsBadModel read fault → ((other : ModelFault) → IsBadModel read other → SameFault fault other) → ((m : Model) → IsModelText m read → ⊥) → IsFaultOf told fault
fault_given told read fault is bad one none = record {
  text = bad_text told read fault is bad;
  one = λ text other e h. one other (fault_read read text other (is text e) h);
  none = λ text m e h. none m (subst (IsModelText m) (sym (whole MAX_MODEL_BYTES read text (is text e) (short_text m text h))) h);
}
