-- The sections of the monitor can be kept as a circuit, and what is kept is the model.
use Rattle.std.proofs.Common.{◌≡◌, ℕ, ◌+◌, ◌*◌, ◌<◌, ◌≤◌, [], ◌++◌, length, sym, ap, ◌∙◌, subst, arith}
use Rattle.std.specs.List.{All, Contains}
use Rattle.std.specs.Prelude.{◌⊎◌, ◌↔◌, None}
use Rattle.std.proofs.lemmas.List.Elements.{All-nil, All-append, All-weaker}
use Rattle.aig_semantics.specs.declared.limits.TheConstants.{MAX_VARIABLE}
use Rattle.aig_semantics.specs.Literals.{variable_of}
use Rattle.aig_semantics.specs.Circuits.{Circuit, IsChecked, IsWithinLimits, AreDefined, defined, used, fair_literals}
use Rattle.aig_semantics.specs.Valuations.{HasOneValuation}
use Rattle.circuit.specs.declared.checking.Kept.{Kept}
use Rattle.circuit.specs.Keeping.{IsKeptOf}
use Rattle.circuit.specs.Sections.{circuit_of, used_by, AreInRange}
use Rattle.aiger_grammar.specs.declared.names.Names.{Names}
use Rattle.aiger_grammar.specs.Models.{Model, IsModel}
use Rattle.aiger_names.specs.Kept.{joined}
use Rattle.live_to_safe.proofs.Extending.{fair_all}
use Rattle.round_monitor.specs.declared.sizes.Sizes.{Sizes}
use Rattle.round_monitor.specs.Counting.{HasFullRun, HasRunOfRounds, WatchesRounds}
use Rattle.round_monitor.specs.Numbers.{sizes_of, greatest}
use Rattle.round_monitor.specs.Monitor.{monitor_circuit, monitor_model}
use Rattle.round_monitor.specs.Ends.{IsMonitorable}
use Rattle.round_monitor.specs.Steps.{monitor_parts}
use Rattle.round_monitor.proofs.Watched.{monitor-is_model}
use Rattle.round_monitor.proofs.Exact.{watches, exact}

pub fits : (c : Circuit) (j k : ℕ) (z : Sizes) → z ≡ sizes_of c j k → IsMonitorable c j k → greatest z ≤ MAX_VARIABLE
fits c j k z is able = subst (λ x. greatest x ≤ MAX_VARIABLE) (sym is) able.size

pub low_literals : (c : Circuit) (j : ℕ) → IsWithinLimits c → j < length c.justice → All (λ literal. literal ≤ 2 * MAX_VARIABLE + 1) (fair_literals c j)
low_literals c j limits property =
    fair_all (λ literal. literal ≤ 2 * MAX_VARIABLE + 1) c j property
    (All-weaker (λ literal. literal ≤ 2 * c.max + 1) (λ literal. literal ≤ 2 * MAX_VARIABLE + 1) (λ literal low. (let most = limits.max in omega (arith, low, most)))
    (used c) limits.literals)

module _ (c : Circuit) (j k : ℕ) (checked : IsChecked c) (limits : IsWithinLimits c) (able : IsMonitorable c j k) (some : 1 ≤ k) where
  is-model : IsModel (monitor_model c j k)
  is-model = monitor-is_model c j k checked limits able.property some able

  pub parts_in_range : AreInRange (monitor_parts c j k)
  parts_in_range = record {
    variables = is-model.checked.in_range;
    limits = is-model.limits;
    literals = is-model.literals;
    outputs = is-model.outputs;
    bad = is-model.bad;
  }

  pub parts_checked : IsChecked (circuit_of (monitor_parts c j k))
  parts_checked = is-model.checked

  pub parts_defined : AreDefined (circuit_of (monitor_parts c j k)) (used_by (monitor_parts c j k))
  parts_defined =
      let Defined : ℕ → Type 0 = λ literal. (variable_of literal ≡ 0) ⊎ Contains (defined (monitor_circuit c j k)) (variable_of literal) in
      All-append Defined (used (monitor_circuit c j k) ++ []) []
      (All-append Defined (used (monitor_circuit c j k)) [] is-model.checked.used_defined (All-nil Defined)) (All-nil Defined)

  abbrev no_names : Names
  no_names = record { symbols = []; comment = None }

  pub kept_is : (kept : Kept) → IsKeptOf (monitor_parts c j k) kept → joined kept.circuit kept.outputs kept.bad no_names ≡ monitor_model c j k
  kept_is kept h =
      ap (λ x. joined x kept.outputs kept.bad no_names) h.circuit
      ∙ ap (λ x. joined (monitor_circuit c j k) x kept.bad no_names) h.outputs
      ∙ ap (λ x. joined (monitor_circuit c j k) [] x no_names) h.bad

  pub kept_model : (kept : Kept) → IsKeptOf (monitor_parts c j k) kept → IsModel (joined kept.circuit kept.outputs kept.bad no_names)
  kept_model kept h = subst IsModel (sym (kept_is kept h)) is-model

  pub kept_watches : (kept : Kept) (m : Model) → IsKeptOf (monitor_parts c j k) kept → HasOneValuation c → HasOneValuation kept.circuit
      → m ≡ joined kept.circuit kept.outputs kept.bad no_names → WatchesRounds c j k m.circuit
  kept_watches kept m h one other is =
      subst (λ x. WatchesRounds c j k x.circuit) (sym (is ∙ kept_is kept h))
      (watches c j k checked limits able.property some one (subst HasOneValuation h.circuit other))

  pub kept_exact : (kept : Kept) (m : Model) → IsKeptOf (monitor_parts c j k) kept → HasOneValuation c → HasOneValuation kept.circuit
      → m ≡ joined kept.circuit kept.outputs kept.bad no_names → HasFullRun m.circuit ↔ HasRunOfRounds c j k
  kept_exact kept m h one other is =
      subst (λ x. HasFullRun x.circuit ↔ HasRunOfRounds c j k) (sym (is ∙ kept_is kept h))
      (exact c j k checked limits able.property some one (subst HasOneValuation h.circuit other))
