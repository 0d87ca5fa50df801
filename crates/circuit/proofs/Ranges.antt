-- A fact of each variable that is defined, or of each literal that is used, section by section and all at once.
use Rattle.std.proofs.Common.{ℕ, ◌+◌, ◌*◌, ◌≤◌, List, [], ◌∷◌, ◌++◌, map, arith}
use Rattle.std.specs.List.{All, flat_map}
use Rattle.std.proofs.lemmas.List.Elements.{All-append, All-map}
use Rattle.aig_semantics.specs.Circuits.{defined, used}
use Rattle.aig_semantics.proofs.Lists.{All-left, All-right}
use Rattle.circuit.specs.declared.parts.Parts.{Parts}
use Rattle.circuit.specs.Sections.{circuit_of, used_by, AreInRange}
use Rattle.circuit.specs.Fitting.{DefinesAll, UsesAll, IsFitting}
use Rattle.circuit.proofs.Counting.{All-unmap, All-parts, All-joined, All-pair}

module _ (P : ℕ → Type 0) (parts : Parts) where
  abbrev latch_variables : List ℕ
  latch_variables = map (λ latch. latch.var) parts.latches

  abbrev gate_variables : List ℕ
  gate_variables = map (λ gate. gate.var) parts.gates

  pub DefinesAll-from : All P (defined (circuit_of parts)) → DefinesAll P parts
  DefinesAll-from all =
      let given = All-left P (parts.inputs ++ latch_variables) gate_variables all in
      record {
        inputs = All-left P parts.inputs latch_variables given;
        latches = All-unmap P (λ latch. latch.var) parts.latches (All-right P parts.inputs latch_variables given);
        gates = All-unmap P (λ gate. gate.var) parts.gates (All-right P (parts.inputs ++ latch_variables) gate_variables all);
      }

  pub All-defined : DefinesAll P parts → All P (defined (circuit_of parts))
  All-defined h =
      All-append P (parts.inputs ++ latch_variables) gate_variables
      (All-append P parts.inputs latch_variables h.inputs (All-map P (λ latch. latch.var) parts.latches h.latches))
      (All-map P (λ gate. gate.var) parts.gates h.gates)

  abbrev next_literals : List ℕ
  next_literals = map (λ latch. latch.next) parts.latches

  abbrev right_sides : List ℕ
  right_sides = flat_map (λ gate. gate.rhs0 ∷ gate.rhs1 ∷ []) parts.gates

  abbrev property_literals : List ℕ
  property_literals = flat_map (λ property. property) parts.justice

  pub UsesAll-from : All P (used_by parts) → UsesAll P parts
  UsesAll-from all =
      let six = All-left P (used (circuit_of parts) ++ parts.outputs) parts.bad all in
      let five = All-left P (used (circuit_of parts)) parts.outputs six in
      let four = All-left P (next_literals ++ right_sides ++ parts.constraints ++ property_literals) parts.fairness five in
      let three = All-left P (next_literals ++ right_sides ++ parts.constraints) property_literals four in
      let two = All-left P (next_literals ++ right_sides) parts.constraints three in
      let each = All-parts P (λ gate. gate.rhs0 ∷ gate.rhs1 ∷ []) parts.gates (All-right P next_literals right_sides two) in
      record {
        latches = All-unmap P (λ latch. latch.next) parts.latches (All-left P next_literals right_sides two);
        gates = λ k d below. (each k d below 0 0 (omega arith), each k d below 1 0 (omega arith));
        constraints = All-right P (next_literals ++ right_sides) parts.constraints three;
        justice = All-parts P (λ property. property) parts.justice (All-right P (next_literals ++ right_sides ++ parts.constraints) property_literals four);
        fairness = All-right P (next_literals ++ right_sides ++ parts.constraints ++ property_literals) parts.fairness five;
        outputs = All-right P (used (circuit_of parts)) parts.outputs six;
        bad = All-right P (used (circuit_of parts) ++ parts.outputs) parts.bad all;
      }

  pub All-used : UsesAll P parts → All P (used (circuit_of parts))
  All-used h =
      let next = All-map P (λ latch. latch.next) parts.latches h.latches in
      let sides = All-joined P (λ gate. gate.rhs0 ∷ gate.rhs1 ∷ []) parts.gates (λ k d below. All-pair P _ _ (h.gates k d below).0 (h.gates k d below).1) in
      let properties = All-joined P (λ property. property) parts.justice h.justice in
      let two = All-append P next_literals right_sides next sides in
      let three = All-append P (next_literals ++ right_sides) parts.constraints two h.constraints in
      let four = All-append P (next_literals ++ right_sides ++ parts.constraints) property_literals three properties in
      All-append P (next_literals ++ right_sides ++ parts.constraints ++ property_literals) parts.fairness four h.fairness

-- the literals that a model uses are in their range
pub used-in_range : (parts : Parts) → AreInRange parts → All (λ literal. literal ≤ 2 * parts.max + 1) (used_by parts)
used-in_range parts h =
    let Low : ℕ → Type 0 = λ literal. literal ≤ 2 * parts.max + 1 in
    All-append Low (used (circuit_of parts) ++ parts.outputs) parts.bad
    (All-append Low (used (circuit_of parts)) parts.outputs h.limits.literals (All-left Low parts.outputs parts.bad h.literals))
    (All-right Low parts.outputs parts.bad h.literals)

pub IsFitting-from : (parts : Parts) → AreInRange parts → IsFitting parts
IsFitting-from parts h = record {
  max = h.limits.max;
  variables = DefinesAll-from (λ v. (1 ≤ v) × (v ≤ parts.max)) parts h.variables;
  literals = UsesAll-from (λ literal. literal ≤ 2 * parts.max + 1) parts (used-in_range parts h);
  lengths = record {
    properties = h.limits.properties;
    inputs = h.limits.inputs;
    latches = h.limits.latches;
    gates = h.limits.gates;
    constraints = h.limits.constraints;
    justice = h.limits.justice;
    fairness = h.limits.fairness;
    outputs = h.outputs;
    bad = h.bad;
  };
}

pub AreInRange-from : (parts : Parts) → IsFitting parts → AreInRange parts
AreInRange-from parts h = record {
  variables = All-defined (λ v. (1 ≤ v) × (v ≤ parts.max)) parts h.variables;
  limits = record {
    max = h.max;
    literals = All-used (λ literal. literal ≤ 2 * parts.max + 1) parts h.literals;
    properties = h.lengths.properties;
    inputs = h.lengths.inputs;
    latches = h.lengths.latches;
    gates = h.lengths.gates;
    constraints = h.lengths.constraints;
    justice = h.lengths.justice;
    fairness = h.lengths.fairness;
  };
  literals = All-append (λ literal. literal ≤ 2 * parts.max + 1) parts.outputs parts.bad h.literals.outputs h.literals.bad;
  outputs = h.lengths.outputs;
  bad = h.lengths.bad;
}
