-- The translation is a model: a checked circuit within the limits, whose bad state literal is defined.
use Rattle.std.proofs.Common.{◌≡◌, ℕ, ◌+◌, ◌*◌, ◌<◌, ◌≤◌, ◌⊎◌, List, [], ◌∷◌, ◌++◌, map, length, refl, ap, ◌∙◌, arith}
use Rattle.std.specs.List.{All, Contains, range_with_len}
use Rattle.std.proofs.lemmas.List.Elements.{All-nil, All-cons}
use Rattle.aig_semantics.specs.declared.limits.TheConstants.{MAX_VARIABLE}
use Rattle.aig_semantics.specs.Literals.{variable_of}
use Rattle.aig_semantics.specs.Circuits.{Circuit, IsChecked, IsWithinLimits, defined, fair_literals}
use Rattle.aiger_grammar.specs.Models.{IsModel}
use Rattle.aiger_grammar.proofs.Ranges.{range_append}
use Rattle.aiger_grammar.proofs.Room.{has_room}
use Rattle.live_to_safe.specs.declared.sizes.Sizes.{Sizes}
use Rattle.live_to_safe.specs.Numbers.{sizes_of, save, saving, greatest}
use Rattle.live_to_safe.specs.Watching.{new_latches, new_gates, bad_literal}
use Rattle.live_to_safe.specs.Translation.{safety_circuit, safety_model}
use Rattle.live_to_safe.specs.Ends.{IsTranslatable}
use Rattle.live_to_safe.proofs.Numbering.{latch_vars, gate_vars}
use Rattle.live_to_safe.proofs.Before.{IsBefore, ReadsBefore}
use Rattle.live_to_safe.proofs.Reading.{bad_before, new_gates_read, new_latches_read}
use Rattle.live_to_safe.proofs.Extending.{IsOwn, own_read, own_latches_read, fair_all, Extension, before-known, all-known, is-checked}

-- how many variables there are more
abbrev pub added : Sizes → ℕ
added z = 4 + 8 * z.latches + 4 * z.literals

module _ (c : Circuit) (j : ℕ) (checked : IsChecked c) (limits : IsWithinLimits c) (property : j < length c.justice) where
  abbrev z : Sizes
  z = sizes_of c j

  abbrev added_latches : List ℕ
  added_latches = map (λ latch. latch.var) (new_latches z)

  abbrev added_gates : List ℕ
  added_gates = map (λ gate. gate.var) (new_gates z c.latches (fair_literals c j))

  pub top-is : greatest z ≡ c.max + added z
  top-is = omega arith

  -- the new variables, section by section, are those behind the circuit's in their order
  pub vars : (save z ∷ []) ++ added_latches ++ added_gates ≡ range_with_len (c.max + 1) (added z)
  vars =
      let one : List ℕ = range_with_len (c.max + 1) 1 in
      let a : c.max + 2 ≡ c.max + 1 + 1 = omega arith in
      let b : saving z ≡ c.max + 1 + (1 + (1 + z.latches + z.literals)) = omega arith in
      let d : 1 + (1 + z.latches + z.literals) + (2 + 7 * z.latches + 3 * z.literals) ≡ 4 + 8 * z.latches + 4 * z.literals = omega arith in
      ap (λ xs. one ++ xs ++ added_gates) (latch_vars z ∙ ap (λ x. range_with_len x (1 + z.latches + z.literals)) a)
      ∙ ap (λ xs. xs ++ added_gates) (range_append (c.max + 1) 1 (1 + z.latches + z.literals))
      ∙ ap (λ xs. range_with_len (c.max + 1) (1 + (1 + z.latches + z.literals)) ++ xs)
      (gate_vars z c.latches (fair_literals c j) refl refl ∙ ap (λ x. range_with_len x (2 + 7 * z.latches + 3 * z.literals)) b)
      ∙ range_append (c.max + 1) (1 + (1 + z.latches + z.literals)) (2 + 7 * z.latches + 3 * z.literals)
      ∙ ap (range_with_len (c.max + 1)) d

  pub gates-read : All (ReadsBefore c.max c) (new_gates z c.latches (fair_literals c j))
  gates-read =
      new_gates_read z c c.latches (fair_literals c j) refl refl (own_latches_read c checked)
      (fair_all (IsOwn c) c j property (own_read c checked limits))

  pub latches-read : All (λ latch. IsBefore c.max c (greatest z + 1) latch.next) (new_latches z)
  latches-read = new_latches_read z c

  -- what the circuit gets more
  abbrev pub watching : Extension c
  watching = record {
    top = greatest z;
    n = added z;
    inputs = save z ∷ [];
    all_inputs = c.inputs ++ save z ∷ [];
    latches = new_latches z;
    gates = new_gates z c.latches (fair_literals c j);
    inputs-are = refl;
    top-is = top-is;
    vars = vars;
    gates-read = gates-read;
    latches-read = latches-read;
  }

  safety_checked : IsChecked (safety_circuit c j)
  safety_checked = is-checked c checked limits watching

  pub safety_is_model : IsTranslatable c j → IsModel (safety_model c j)
  safety_is_model able =
      let size : greatest z ≤ MAX_VARIABLE = able.size in
      let room = has_room (safety_model c j) safety_checked in
      let known = all-known c checked limits watching in
      let bad = before-known c checked limits watching (bad_literal z) (bad_before z c) in
      record {
        checked = safety_checked;
        limits = record {
          max = size;
          literals = λ i d below. (known i d below).0;
          properties = All-nil _;
          inputs = omega (arith, room, size);
          latches = omega (arith, room, size);
          gates = omega (arith, room, size);
          constraints = limits.constraints;
          justice = omega arith;
          fairness = omega arith;
        };
        literals = All-cons (λ literal. literal ≤ 2 * greatest z + 1) (bad_literal z) [] bad.0 (All-nil _);
        defined = All-cons (λ literal. (variable_of literal ≡ 0) ⊎ Contains (defined (safety_circuit c j)) (variable_of literal)) (bad_literal z) [] bad.1 (All-nil _);
        outputs = omega arith;
        bad = omega arith;
        symbols = All-nil _;
        comment = tt;
      }
