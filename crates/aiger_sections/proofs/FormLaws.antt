-- The laws of a form of text, of which a reader gives what stands there.
use Rattle.std.proofs.Common.{◌≡◌, ◌⊎◌, ℕ, List, ◌++◌, Result, Ok, Err, refl, sym, ap, subst, ◌∙◌, inl, inr}
use Rattle.aig_semantics.specs.Circuits.{IsChecked, AreDefined}
use Rattle.circuit.specs.declared.parts.Parts.{Parts}
use Rattle.circuit.specs.declared.faults.ModelFault.{ModelFault}
use Rattle.circuit.specs.declared.faults.ModelEnd.{ModelEnd}
use Rattle.circuit.specs.declared.faults.ModelEnd.TheVariants.{Memory, Fault}
use Rattle.circuit.specs.Sections.{circuit_of, used_by, AreInRange}
use Rattle.aiger_grammar.specs.declared.names.Names.{Names}
use Rattle.aiger_grammar.specs.Models.{Model, IsModel}
use Rattle.aiger_grammar.specs.Answered.{FailsAs}
use Rattle.aiger_grammar.specs.BothForms.{HasPartsFault, IsFirstFault, SameFault, model_of}
use Rattle.aiger_sections.specs.Answers.{IsAnswer}
use Rattle.aiger_sections.proofs.ReaderLaws.{same_ok}
use Rattle.aiger_sections.proofs.PartsLaws.{checked_has_none, one_parts_fault, all_defined, others_defined}
use Rattle.aiger_sections.proofs.WholeLaws.{parts_in}
use Rattle.aiger_sections.proofs.Deciding.{checked_or_faulty}

-- what is read is what stands there
pub record ReadsForm (Text : Model → List ℕ → Type 0) (read : List ℕ → Result (Parts × Names) ModelFault) : Type 0 where
  pub range : (bytes : List ℕ) (parts : Parts) (names : Names) → read bytes ≡ Ok (parts, names) → AreInRange parts
  pub stands : (bytes : List ℕ) (parts : Parts) (names : Names) → read bytes ≡ Ok (parts, names) → IsChecked (circuit_of parts)
      → AreDefined (circuit_of parts) (parts.outputs ++ parts.bad) → Text (model_of parts names) bytes
  pub model : (m : Model) (bytes : List ℕ) → Text m bytes → IsModel m
  pub again : (m : Model) (bytes : List ℕ) → Text m bytes → read bytes ≡ Ok (parts_in m, m.names)

abbrev FaultBy : (List ℕ → Result (Parts × Names) ModelFault) → List ℕ → ModelFault → Type 0
FaultBy read bytes fault = IsFirstFault (read bytes) fault

abbrev model_in : Parts × Names → Model
model_in x = model_of x.0 x.1

one_first : (r : Result (Parts × Names) ModelFault) (first second : ModelFault) → IsFirstFault r first → IsFirstFault r second → SameFault first second
one_first (Ok x) first second s t = one_parts_fault x.0 first second s t
one_first (Err fault) first second s t = inl (sym s ∙ t)

module _ (Text : Model → List ℕ → Type 0) (read : List ℕ → Result (Parts × Names) ModelFault) (law : ReadsForm Text read) where
  pub has_one_model : (m n : Model) (bytes : List ℕ) → Text m bytes → Text n bytes → m ≡ n
  has_one_model m n bytes s t = ap model_in (same_ok (parts_in m, m.names) (parts_in n, n.names) (sym (law.again m bytes s) ∙ law.again n bytes t))

  pub has_no_fault : (m : Model) (bytes : List ℕ) (fault : ModelFault) → Text m bytes → FaultBy read bytes fault → ⊥
  has_no_fault m bytes fault s has =
      let parts = parts_in m in
      let model = law.model m bytes s in
      checked_has_none parts fault model.checked (all_defined parts model.checked model.defined) (subst (λ r. IsFirstFault r fault) (law.again m bytes s) has)

  pub has_one_fault : (bytes : List ℕ) (first second : ModelFault) → FaultBy read bytes first → FaultBy read bytes second → SameFault first second
  has_one_fault bytes first second s t = one_first (read bytes) first second s t

  -- ---- the answers of a reader

  pub unread : (bytes : List ℕ) (end : ModelEnd) → FailsAs end (read bytes) → IsAnswer Text (FaultBy read) bytes (Err end)
  unread bytes Memory fails = tt
  unread bytes (Fault fault) fails = subst (λ r. IsFirstFault r fault) (sym fails) refl

  pub faulty : (bytes : List ℕ) (parts : Parts) (names : Names) (fault : ModelFault) → read bytes ≡ Ok (parts, names) → HasPartsFault parts fault → FaultBy read bytes fault
  faulty bytes parts names fault e has = subst (λ r. IsFirstFault r fault) (sym e) has

  pub read_stands : (bytes : List ℕ) (parts : Parts) (names : Names) → read bytes ≡ Ok (parts, names) → IsChecked (circuit_of parts) → AreDefined (circuit_of parts) (used_by parts) → Text (model_of parts names) bytes
  read_stands bytes parts names e checked all = law.stands bytes parts names e checked (others_defined parts all)

  pub read_model : (bytes : List ℕ) (parts : Parts) (names : Names) → read bytes ≡ Ok (parts, names) → IsChecked (circuit_of parts) → AreDefined (circuit_of parts) (used_by parts) → IsModel (model_of parts names)
  read_model bytes parts names e checked all = law.model (model_of parts names) bytes (read_stands bytes parts names e checked all)

  -- ---- a model or a fault

  abbrev TextOrFault : List ℕ → Type 0
  TextOrFault bytes = ((m : Model) × Text m bytes) ⊎ ((fault : ModelFault) × FaultBy read bytes fault)

  by_check : (bytes : List ℕ) (parts : Parts) (names : Names) → read bytes ≡ Ok (parts, names)
      → (IsChecked (circuit_of parts) × AreDefined (circuit_of parts) (used_by parts)) ⊎ ((fault : ModelFault) × HasPartsFault parts fault) → TextOrFault bytes
  by_check bytes parts names e (inl sound) = inl (model_of parts names, read_stands bytes parts names e sound.0 sound.1)
  by_check bytes parts names e (inr has) = inr (has.0, faulty bytes parts names has.0 e has.1)

  by_reading : (bytes : List ℕ) (r : Result (Parts × Names) ModelFault) → read bytes ≡ r → TextOrFault bytes
  by_reading bytes (Ok x) e = by_check bytes x.0 x.1 e (checked_or_faulty x.0 (law.range bytes x.0 x.1 e))
  by_reading bytes (Err fault) e = inr (fault, subst (λ r. IsFirstFault r fault) (sym e) refl)

  pub is_text_or_faulty : (bytes : List ℕ) → ((m : Model) × Text m bytes) ⊎ ((fault : ModelFault) × FaultBy read bytes fault)
  is_text_or_faulty bytes = by_reading bytes (read bytes) refl

  -- ---- what callers learn from an answer

  pub every_model : (bytes : List ℕ) (result : Result Model ModelEnd) (m : Model) → IsAnswer Text (FaultBy read) bytes result → Text m bytes → (result ≡ Ok m) ⊎ (result ≡ Err Memory)
  every_model bytes (Ok n) m answer s = inl (ap (λ x. Ok x) (has_one_model n m bytes answer s))
  every_model bytes (Err Memory) m answer s = inr refl
  every_model bytes (Err (Fault fault)) m answer s = absurd (has_no_fault m bytes fault s answer)

  pub said_fault : (bytes : List ℕ) (result : Result Model ModelEnd) (fault : ModelFault) → IsAnswer Text (FaultBy read) bytes result → result ≡ Err (Fault fault) → FaultBy read bytes fault
  said_fault bytes result fault answer e = subst (IsAnswer Text (FaultBy read) bytes) e answer

  pub first_fault : (bytes : List ℕ) (result : Result Model ModelEnd) (fault : ModelFault) → IsAnswer Text (FaultBy read) bytes result → FaultBy read bytes fault
      → ((said : ModelFault) × (result ≡ Err (Fault said)) × SameFault said fault) ⊎ (result ≡ Err Memory)
  first_fault bytes (Ok m) fault answer has = absurd (has_no_fault m bytes fault answer has)
  first_fault bytes (Err Memory) fault answer has = inr refl
  first_fault bytes (Err (Fault said)) fault answer has = inl (said, refl, has_one_fault bytes said fault answer has)
