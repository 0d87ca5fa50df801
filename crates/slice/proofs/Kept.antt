-- The sections of the slice can be kept as a circuit, and what is kept, with the symbols, is the model.
use Rattle.std.proofs.Common.{◌≡◌, ℕ, ◌<◌, Bool, List, [], ◌++◌, length, sym, ap, ◌∙◌, subst}
use Rattle.std.specs.Prelude.{◌⊎◌, ◌↔◌, None}
use Rattle.std.specs.List.{Contains, filter_map}
use Rattle.std.proofs.lemmas.List.Elements.{All-nil, All-append}
use Rattle.aig_semantics.specs.Literals.{variable_of}
use Rattle.aig_semantics.specs.Circuits.{Circuit, IsChecked, AreDefined, defined, used}
use Rattle.aig_semantics.specs.Valuations.{HasOneValuation}
use Rattle.circuit.specs.declared.checking.Kept.{Kept}
use Rattle.circuit.specs.declared.parts.Parts.{Parts}
use Rattle.circuit.specs.Keeping.{IsKeptOf}
use Rattle.circuit.specs.Sections.{circuit_of, used_by, AreInRange}
use Rattle.aiger_grammar.specs.declared.names.Names.{Names}
use Rattle.aiger_grammar.specs.declared.names.Symbol.{Symbol}
use Rattle.aiger_grammar.specs.Models.{Model, IsModel}
use Rattle.aiger_names.specs.Kept.{joined}
use Rattle.cone.specs.Cones.{IsCone}
use Rattle.live_to_safe.specs.BadRuns.{HasFairLasso}
use Rattle.slice.specs.Symbols.{symbol_left}
use Rattle.slice.specs.Slicing.{sliced_circuit, sliced_model, IsSlice}
use Rattle.slice.specs.Steps.{sliced_parts}
use Rattle.slice.proofs.Defining.{slice_is_model}
use Rattle.slice.proofs.Exact.{exact}

abbrev names_of : List Symbol → Names
names_of symbols = record { symbols = symbols; comment = None }

module _ (m : Model) (j : ℕ) (set : ℕ → Bool) (cone : IsCone m.circuit j set) (is : IsModel m) (able : j < length m.circuit.justice) where
  pub parts_in_range : AreInRange (sliced_parts m.circuit j set)
  parts_in_range =
      let model = slice_is_model m j set cone.closed is able in
      record {
        variables = model.checked.in_range;
        limits = model.limits;
        literals = model.literals;
        outputs = model.outputs;
        bad = model.bad;
      }

  pub parts_checked : IsChecked (circuit_of (sliced_parts m.circuit j set))
  parts_checked = (slice_is_model m j set cone.closed is able).checked

  pub parts_defined : AreDefined (circuit_of (sliced_parts m.circuit j set)) (used_by (sliced_parts m.circuit j set))
  parts_defined =
      let t : Circuit = sliced_circuit m.circuit j set in
      let Defined : ℕ → Type 0 = λ literal. (variable_of literal ≡ 0) ⊎ Contains (defined t) (variable_of literal) in
      All-append Defined (used t ++ []) [] (All-append Defined (used t) [] (slice_is_model m j set cone.closed is able).checked.used_defined (All-nil Defined)) (All-nil Defined)

  pub kept_is : (kept : Kept) (symbols : List Symbol) → IsKeptOf (sliced_parts m.circuit j set) kept → symbols ≡ filter_map (symbol_left m.circuit j set) m.names.symbols
      → joined kept.circuit kept.outputs kept.bad (names_of symbols) ≡ sliced_model m j set
  kept_is kept symbols h same =
      ap (λ x. joined x kept.outputs kept.bad (names_of symbols)) h.circuit
      ∙ ap (λ x. joined (sliced_circuit m.circuit j set) x kept.bad (names_of symbols)) h.outputs
      ∙ ap (λ x. joined (sliced_circuit m.circuit j set) [] x (names_of symbols)) h.bad
      ∙ ap (λ x. joined (sliced_circuit m.circuit j set) [] [] (names_of x)) same

  pub kept_model : (kept : Kept) (symbols : List Symbol) → IsKeptOf (sliced_parts m.circuit j set) kept → symbols ≡ filter_map (symbol_left m.circuit j set) m.names.symbols
      → IsModel (joined kept.circuit kept.outputs kept.bad (names_of symbols))
  kept_model kept symbols h same = subst IsModel (sym (kept_is kept symbols h same)) (slice_is_model m j set cone.closed is able)

  pub kept_slice : (kept : Kept) (symbols : List Symbol) (s : Model) → IsKeptOf (sliced_parts m.circuit j set) kept → symbols ≡ filter_map (symbol_left m.circuit j set) m.names.symbols
      → s ≡ joined kept.circuit kept.outputs kept.bad (names_of symbols) → IsSlice m j s
  kept_slice kept symbols s h same made = record { cone = set; is_cone = cone; model = made ∙ kept_is kept symbols h same }

  pub kept_exact : (kept : Kept) (symbols : List Symbol) (s : Model) → IsKeptOf (sliced_parts m.circuit j set) kept → symbols ≡ filter_map (symbol_left m.circuit j set) m.names.symbols
      → HasOneValuation m.circuit → HasOneValuation kept.circuit → s ≡ joined kept.circuit kept.outputs kept.bad (names_of symbols)
      → HasFairLasso s.circuit 0 ↔ HasFairLasso m.circuit j
  kept_exact kept symbols s h same one other made =
      subst (λ x. HasFairLasso x.circuit 0 ↔ HasFairLasso m.circuit j) (sym (made ∙ kept_is kept symbols h same))
      (exact m.circuit j set cone.closed one (subst HasOneValuation h.circuit other) able)

-- ---- over a circuit that is the model's

module _ (m : Model) (c : Circuit) (j : ℕ) (set : ℕ → Bool) (parts : Parts) (same : c ≡ m.circuit) (cone : IsCone c j set) (is : IsModel m) (able : j < length m.circuit.justice) (made : parts ≡ sliced_parts c j set) where
  own_cone : IsCone m.circuit j set
  own_cone = subst (λ k. IsCone k j set) same cone

  own_parts : sliced_parts m.circuit j set ≡ parts
  own_parts = sym (made ∙ ap (λ k. sliced_parts k j set) same)

  pub made_in_range : AreInRange parts
  made_in_range = subst AreInRange own_parts (parts_in_range m j set own_cone is able)

  pub made_checked : IsChecked (circuit_of parts)
  made_checked = subst (λ p. IsChecked (circuit_of p)) own_parts (parts_checked m j set own_cone is able)

  pub made_defined : AreDefined (circuit_of parts) (used_by parts)
  made_defined = subst (λ p. AreDefined (circuit_of p) (used_by p)) own_parts (parts_defined m j set own_cone is able)
