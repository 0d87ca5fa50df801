-- The ranges of all numbers of a model, section by section, and those that a reader has seen to.
use Rattle.std.proofs.Common.{◌+◌, ◌≤◌, List, [], ◌∷◌, length, map, arith}
use Rattle.std.specs.List.{All, AllByRecursion}
use Rattle.std.proofs.lemmas.List.Elements.{All-from_recursion, recursion_from_All}
use Rattle.aig_semantics.specs.declared.limits.TheConstants.{MAX_NUMBER, MAX_PROPERTY_LITERALS, MAX_VARIABLE}
use Rattle.circuit.specs.declared.parts.Parts.{Parts}
use Rattle.circuit.specs.Sections.{AreInRange}
use Rattle.circuit.proofs.Ranges.{IsFitting-from, AreInRange-from}
use Rattle.aiger_sections.proofs.FieldLaws.{IsVariable}
use Rattle.aiger_sections.proofs.LineLaws.{LatchFits, GateFits}
use Rattle.aiger_sections.proofs.SectionLaws.{IsLiteral, IsSize}

pub all_as : {A : Type 0} (P Q : A → Type 0) → ((x : A) → P x → Q x) → (xs : List A) → AllByRecursion P xs → AllByRecursion Q xs
all_as P Q f [] all = tt
all_as P Q f (x ∷ xs) all = (f x all.0, all_as P Q f xs all.1)

all_both : {A : Type 0} (P Q R : A → Type 0) → ((x : A) → P x → Q x → R x) → (xs : List A) → AllByRecursion P xs → AllByRecursion Q xs → AllByRecursion R xs
all_both P Q R f [] first second = tt
all_both P Q R f (x ∷ xs) first second = (f x first.0 second.0, all_both P Q R f xs first.1 second.1)

all_map : {A B : Type 0} (P : B → Type 0) (f : A → B) (xs : List A) → AllByRecursion (λ x. P (f x)) xs → AllByRecursion P (map f xs)
all_map P f [] all = tt
all_map P f (x ∷ xs) all = (all.0, all_map P f xs all.1)

all_unmap : {A B : Type 0} (P : B → Type 0) (f : A → B) (xs : List A) → AllByRecursion P (map f xs) → AllByRecursion (λ x. P (f x)) xs
all_unmap P f [] all = tt
all_unmap P f (x ∷ xs) all = (all.0, all_unmap P f xs all.1)

-- what a text shows of each number, section by section
pub record Fitting (parts : Parts) : Type 0 where
  pub inputs : AllByRecursion (IsVariable parts.max) parts.inputs
  pub latches : AllByRecursion (LatchFits parts.max) parts.latches
  pub gates : AllByRecursion (GateFits parts.max) parts.gates
  pub outputs : AllByRecursion (IsLiteral parts.max) parts.outputs
  pub bad : AllByRecursion (IsLiteral parts.max) parts.bad
  pub constraints : AllByRecursion (IsLiteral parts.max) parts.constraints
  pub justice : AllByRecursion (λ property. AllByRecursion (IsLiteral parts.max) property) parts.justice
  pub sizes : AllByRecursion (IsSize (length parts.fairness)) (map length parts.justice)
  pub fairness : AllByRecursion (IsLiteral parts.max) parts.fairness

-- what its header shows of the lengths
pub record Counted (parts : Parts) : Type 0 where
  pub max : parts.max ≤ MAX_VARIABLE
  pub room : length parts.inputs + length parts.latches + length parts.gates ≤ parts.max
  pub outputs : length parts.outputs ≤ MAX_NUMBER
  pub bad : length parts.bad ≤ MAX_NUMBER
  pub constraints : length parts.constraints ≤ MAX_NUMBER
  pub justice : length parts.justice ≤ MAX_NUMBER
  pub fairness : length parts.fairness ≤ MAX_NUMBER

pub fitting_from : (parts : Parts) → AreInRange parts → Fitting parts
fitting_from parts r =
    let f = IsFitting-from parts r in
    let V = IsVariable parts.max in
    let L = IsLiteral parts.max in
    record {
      inputs = recursion_from_All V parts.inputs f.variables.inputs;
      latches = all_both (λ latch. V latch.var) (λ latch. L latch.next) (LatchFits parts.max) (λ latch v n. record { variable = v; next = n }) parts.latches
          (recursion_from_All (λ latch. V latch.var) parts.latches f.variables.latches) (recursion_from_All (λ latch. L latch.next) parts.latches f.literals.latches);
      gates = all_both (λ gate. V gate.var) (λ gate. L gate.rhs0 × L gate.rhs1) (GateFits parts.max) (λ gate v s. record { variable = v; first = s.0; second = s.1 }) parts.gates
          (recursion_from_All (λ gate. V gate.var) parts.gates f.variables.gates) (recursion_from_All (λ gate. L gate.rhs0 × L gate.rhs1) parts.gates f.literals.gates);
      outputs = recursion_from_All L parts.outputs f.literals.outputs;
      bad = recursion_from_All L parts.bad f.literals.bad;
      constraints = recursion_from_All L parts.constraints f.literals.constraints;
      justice = all_as (λ property. All L property) (λ property. AllByRecursion L property) (λ property all. recursion_from_All L property all) parts.justice
          (recursion_from_All (λ property. All L property) parts.justice f.literals.justice);
      sizes = all_map (IsSize (length parts.fairness)) length parts.justice
          (recursion_from_All (λ property. length property + length parts.fairness ≤ MAX_PROPERTY_LITERALS) parts.justice f.lengths.properties);
      fairness = recursion_from_All L parts.fairness f.literals.fairness;
    }

pub range_from : (parts : Parts) → Fitting parts → Counted parts → AreInRange parts
range_from parts f c =
    let V = IsVariable parts.max in
    let L = IsLiteral parts.max in
    let low : parts.max ≤ MAX_VARIABLE = c.max in
    let room : length parts.inputs + length parts.latches + length parts.gates ≤ parts.max = c.room in
    AreInRange-from parts (record {
      max = c.max;
      variables = record {
        inputs = All-from_recursion V parts.inputs f.inputs;
        latches = All-from_recursion (λ latch. V latch.var) parts.latches (all_as (LatchFits parts.max) (λ latch. V latch.var) (λ latch fits. fits.variable) parts.latches f.latches);
        gates = All-from_recursion (λ gate. V gate.var) parts.gates (all_as (GateFits parts.max) (λ gate. V gate.var) (λ gate fits. fits.variable) parts.gates f.gates);
      };
      literals = record {
        latches = All-from_recursion (λ latch. L latch.next) parts.latches (all_as (LatchFits parts.max) (λ latch. L latch.next) (λ latch fits. fits.next) parts.latches f.latches);
        gates = All-from_recursion (λ gate. L gate.rhs0 × L gate.rhs1) parts.gates
            (all_as (GateFits parts.max) (λ gate. L gate.rhs0 × L gate.rhs1) (λ gate fits. (fits.first, fits.second)) parts.gates f.gates);
        constraints = All-from_recursion L parts.constraints f.constraints;
        justice = All-from_recursion (λ property. All L property) parts.justice
            (all_as (λ property. AllByRecursion L property) (λ property. All L property) (λ property all. All-from_recursion L property all) parts.justice f.justice);
        fairness = All-from_recursion L parts.fairness f.fairness;
        outputs = All-from_recursion L parts.outputs f.outputs;
        bad = All-from_recursion L parts.bad f.bad;
      };
      lengths = record {
        properties = All-from_recursion (λ property. length property + length parts.fairness ≤ MAX_PROPERTY_LITERALS) parts.justice
            (all_unmap (IsSize (length parts.fairness)) length parts.justice f.sizes);
        inputs = omega arith;
        latches = omega arith;
        gates = omega arith;
        constraints = c.constraints;
        justice = c.justice;
        fairness = c.fairness;
        outputs = c.outputs;
        bad = c.bad;
      };
    })
