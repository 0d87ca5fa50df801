-- The sections of the translation can be kept as a circuit, and what is kept is the model.
use Rattle.std.proofs.Common.{◌≡◌, ℕ, ◌+◌, ◌*◌, ◌≤◌, [], ◌∷◌, ◌++◌, sym, ap, ◌∙◌, subst, arith}
use Rattle.std.specs.List.{All, Contains}
use Rattle.std.specs.Prelude.{◌⊎◌, ◌↔◌, None}
use Rattle.std.proofs.lemmas.List.Elements.{All-nil, All-append, All-weaker}
use Rattle.aig_semantics.specs.declared.limits.TheConstants.{MAX_VARIABLE}
use Rattle.aig_semantics.specs.Literals.{variable_of}
use Rattle.aig_semantics.specs.Circuits.{Circuit, IsChecked, IsWithinLimits, AreDefined, defined, used, fair_literals}
use Rattle.aig_semantics.specs.Valuations.{HasOneValuation}
use Rattle.circuit.specs.declared.checking.Kept.{Kept}
use Rattle.circuit.specs.Keeping.{IsKeptOf}
use Rattle.circuit.specs.Sections.{circuit_of, used_by, AreInRange}
use Rattle.aiger_grammar.specs.declared.names.Names.{Names}
use Rattle.aiger_grammar.specs.Models.{Model, IsModel}
use Rattle.aiger_names.specs.Kept.{joined}
use Rattle.live_to_safe.specs.BadRuns.{HasBadRun, HasFairLasso}
use Rattle.live_to_safe.specs.Numbers.{sizes_of, greatest}
use Rattle.live_to_safe.specs.declared.sizes.Sizes.{Sizes}
use Rattle.live_to_safe.specs.Watching.{bad_literal}
use Rattle.live_to_safe.specs.Translation.{safety_circuit, safety_model}
use Rattle.live_to_safe.specs.Ends.{IsTranslatable}
use Rattle.live_to_safe.specs.Steps.{safety_parts}
use Rattle.live_to_safe.proofs.Extending.{fair_all, own_latches_read}
use Rattle.live_to_safe.proofs.Defining.{safety_is_model}
use Rattle.live_to_safe.proofs.Exact.{exact}

pub fits : (c : Circuit) (j : ℕ) (z : Sizes) → z ≡ sizes_of c j → IsTranslatable c j → greatest z ≤ MAX_VARIABLE
fits c j z is able = subst (λ x. greatest x ≤ MAX_VARIABLE) (sym is) able.size

module _ (c : Circuit) (j : ℕ) (checked : IsChecked c) (limits : IsWithinLimits c) (able : IsTranslatable c j) where
  pub low_latches : All (λ latch. latch.var ≤ MAX_VARIABLE) c.latches
  low_latches = λ k d below.
      let low = (own_latches_read c checked k d below).0 in
      let most = limits.max in
      omega (arith, low, most)

  pub low_literals : All (λ literal. literal ≤ 2 * MAX_VARIABLE + 1) (fair_literals c j)
  low_literals =
      fair_all (λ literal. literal ≤ 2 * MAX_VARIABLE + 1) c j able.property
      (All-weaker (λ literal. literal ≤ 2 * c.max + 1) (λ literal. literal ≤ 2 * MAX_VARIABLE + 1) (λ literal low. (let most = limits.max in omega (arith, low, most)))
      (used c) limits.literals)

  is-model : IsModel (safety_model c j)
  is-model = safety_is_model c j checked limits able.property able

  pub parts_in_range : AreInRange (safety_parts c j)
  parts_in_range = record {
    variables = is-model.checked.in_range;
    limits = is-model.limits;
    literals = is-model.literals;
    outputs = is-model.outputs;
    bad = is-model.bad;
  }

  pub parts_checked : IsChecked (circuit_of (safety_parts c j))
  parts_checked = is-model.checked

  pub parts_defined : AreDefined (circuit_of (safety_parts c j)) (used_by (safety_parts c j))
  parts_defined =
      let Defined : ℕ → Type 0 = λ literal. (variable_of literal ≡ 0) ⊎ Contains (defined (safety_circuit c j)) (variable_of literal) in
      All-append Defined (used (safety_circuit c j) ++ []) (bad_literal (sizes_of c j) ∷ [])
      (All-append Defined (used (safety_circuit c j)) [] is-model.checked.used_defined (All-nil Defined)) is-model.defined

  abbrev no_names : Names
  no_names = record { symbols = []; comment = None }

  pub kept_is : (kept : Kept) → IsKeptOf (safety_parts c j) kept → joined kept.circuit kept.outputs kept.bad no_names ≡ safety_model c j
  kept_is kept h =
      ap (λ x. joined x kept.outputs kept.bad no_names) h.circuit
      ∙ ap (λ x. joined (safety_circuit c j) x kept.bad no_names) h.outputs
      ∙ ap (λ x. joined (safety_circuit c j) [] x no_names) h.bad

  pub kept_model : (kept : Kept) → IsKeptOf (safety_parts c j) kept → IsModel (joined kept.circuit kept.outputs kept.bad no_names)
  kept_model kept h = subst IsModel (sym (kept_is kept h)) is-model

  pub kept_exact : (kept : Kept) (m : Model) → IsKeptOf (safety_parts c j) kept → HasOneValuation c → HasOneValuation kept.circuit
      → m ≡ joined kept.circuit kept.outputs kept.bad no_names → HasBadRun m ↔ HasFairLasso c j
  kept_exact kept m h one other is =
      subst (λ x. HasBadRun x ↔ HasFairLasso c j) (sym (is ∙ kept_is kept h))
      (exact c j checked limits able.property one (subst HasOneValuation h.circuit other))
