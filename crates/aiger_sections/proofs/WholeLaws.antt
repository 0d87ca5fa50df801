-- What both forms of text share: the lengths and ranges of a whole model, and its names.
use Rattle.std.proofs.Common.{◌≡◌, ℕ, zero, suc, ◌≤◌, Bool, true, false, cond, List, [], ◌∷◌, ◌++◌, length, take, drop, Result, Ok, Err, refl, sym, ap, subst, ◌∙◌, arith}
use Rattle.std.specs.List.{AllByRecursion}
use Rattle.std.proofs.lemmas.List.Elements.{All-from_recursion, recursion_from_All}
use Rattle.aig_semantics.specs.declared.limits.TheConstants.{MAX_NUMBER, MAX_VARIABLE}
use Rattle.aig_semantics.specs.Circuits.{IsChecked, AreDefined}
use Rattle.circuit.specs.declared.parts.Parts.{Parts}
use Rattle.circuit.specs.declared.faults.ModelFault.{ModelFault}
use Rattle.circuit.specs.declared.faults.ModelFault.TheVariants.{Header, Limit}
use Rattle.circuit.specs.Sections.{circuit_of, AreInRange}
use Rattle.text_grammar.specs.Pieces.{Lacks}
use Rattle.aiger_grammar.specs.declared.names.Symbol.{Symbol}
use Rattle.aiger_grammar.specs.declared.names.Names.{Names}
use Rattle.aiger_grammar.specs.declared.names.Counts.{Counts}
use Rattle.aiger_grammar.specs.declared.sections.Heading.{Heading}
use Rattle.aiger_grammar.specs.declared.sections.Properties.{Properties}
use Rattle.aiger_grammar.specs.Models.{Model, IsModel, NamesElement}
use Rattle.aiger_grammar.specs.Lines.{LinesOf, SymbolLine, Numbers}
use Rattle.aiger_grammar.specs.Names.{Fits, FittingLine, AreNames, counts_of}
use Rattle.aiger_grammar.specs.Headers.{defined_count}
use Rattle.aiger_grammar.specs.BothForms.{model_of, with_names}
use Rattle.aiger_sections.proofs.ReaderLaws.{same_ok}
use Rattle.aiger_sections.proofs.FieldLaws.{IsVariable}
use Rattle.aiger_sections.proofs.LineLaws.{LatchFits, GateFits}
use Rattle.aiger_sections.proofs.SectionLaws.{PropertyLines}
use Rattle.aiger_sections.proofs.HeadingLaws.{numbers_of, HeadingLine}
use Rattle.aiger_sections.proofs.RangeLaws.{Fitting, Counted}

-- ---- the sections and their header

abbrev pub properties_of : Parts → Properties
properties_of parts = record { outputs = parts.outputs; bad = parts.bad; constraints = parts.constraints; justice = parts.justice; fairness = parts.fairness }

-- the header of such sections
abbrev pub heading_of : Parts → Heading
heading_of parts = record {
  max = parts.max;
  inputs = length parts.inputs;
  latches = length parts.latches;
  outputs = length parts.outputs;
  gates = length parts.gates;
  bad = length parts.bad;
  constraints = length parts.constraints;
  justice = length parts.justice;
  fairness = length parts.fairness;
}

pub same_heading : (h : Heading) (i l o a b c j f : ℕ) → i ≡ h.inputs → l ≡ h.latches → o ≡ h.outputs → a ≡ h.gates → b ≡ h.bad → c ≡ h.constraints → j ≡ h.justice → f ≡ h.fairness
    → h ≡ record { max = h.max; inputs = i; latches = l; outputs = o; gates = a; bad = b; constraints = c; justice = j; fairness = f }
same_heading h i l o a b c j f ei el eo ea eb ec ej ef =
    let of : ℕ → ℕ → ℕ → ℕ → ℕ → ℕ → ℕ → ℕ → Heading = λ i l o a b c j f. record { max = h.max; inputs = i; latches = l; outputs = o; gates = a; bad = b; constraints = c; justice = j; fairness = f } in
    sym (ap (λ x. of x l o a b c j f) ei ∙ ap (λ x. of h.inputs x o a b c j f) el ∙ ap (λ x. of h.inputs h.latches x a b c j f) eo ∙ ap (λ x. of h.inputs h.latches h.outputs x b c j f) ea
    ∙ ap (λ x. of h.inputs h.latches h.outputs h.gates x c j f) eb ∙ ap (λ x. of h.inputs h.latches h.outputs h.gates h.bad x j f) ec
    ∙ ap (λ x. of h.inputs h.latches h.outputs h.gates h.bad h.constraints x f) ej ∙ ap (λ x. of h.inputs h.latches h.outputs h.gates h.bad h.constraints h.justice x) ef)

-- the tests of a header
abbrev refused : ModelFault → Result (Heading × List ℕ) ModelFault
refused fault = Err fault

abbrev pub limited : Bool → Bool → Heading → List ℕ → Result (Heading × List ℕ) ModelFault
limited room low h body = cond room (cond low (Ok (h, body)) (refused (Limit 0))) (refused (Header 0))

pub limited_ok : (room low : Bool) (h : Heading) (body : List ℕ) (y : Heading × List ℕ) → limited room low h body ≡ Ok y → (room ≡ true) × (low ≡ true) × ((h, body) ≡ y)
limited_ok true true h body y e = (refl, refl, same_ok (h, body) y e)
limited_ok true false h body y e = absurd cc
limited_ok false low h body y e = absurd cc

pub past : {A : Type 0} (t : Bool) (fault : ModelFault) (r : Result A ModelFault) (x : A) → cond t (Err fault) r ≡ Ok x → (t ≡ false) × (r ≡ Ok x)
past true fault r x e = absurd cc
past false fault r x e = (refl, e)

pub named : (parts : Parts) (r : Result Names ModelFault) (x : Parts × Names) → with_names parts r ≡ Ok x → (r ≡ Ok x.1) × (parts ≡ x.0)
named parts (Ok names) x e = let p = same_ok (parts, names) x e in (ap (λ y. Ok y.1) p, ap (λ y. y.0) p)
named parts (Err fault) x e = absurd cc

-- ---- the ranges of what was read

abbrev IsSmall : ℕ → Type 0
IsSmall n = n ≤ MAX_NUMBER

numbers_small : (ns bytes rest : List ℕ) → Numbers ns bytes rest → AllByRecursion IsSmall ns
numbers_small [] bytes rest s = tt
numbers_small (n ∷ ns) bytes rest s = (s.3.small, numbers_small ns s.1 rest s.4)

all_parts : (P : ℕ → Type 0) (k : ℕ) (xs : List ℕ) → AllByRecursion P (take k xs) → AllByRecursion P (drop k xs) → AllByRecursion P xs
all_parts P zero xs first second = second
all_parts P (suc k) [] first second = tt
all_parts P (suc k) (x ∷ xs) first second = (first.0, all_parts P k xs first.1 second)

zeros_small : (ns : List ℕ) → AllByRecursion (λ n. n ≡ 0) ns → AllByRecursion IsSmall ns
zeros_small [] all = tt
zeros_small (n ∷ ns) all = (subst IsSmall (sym all.0) (omega arith), zeros_small ns all.1)

heading_small : (letter : ℕ) (h : Heading) (bytes rest : List ℕ) → HeadingLine letter h bytes rest → AllByRecursion IsSmall (numbers_of h)
heading_small letter h bytes rest s =
    all_parts IsSmall s.0 (numbers_of h) (numbers_small (take s.0 (numbers_of h)) s.1.numbers_at rest s.1.numbers_next)
    (zeros_small (drop s.0 (numbers_of h)) (recursion_from_All (λ n. n ≡ 0) (drop s.0 (numbers_of h)) s.1.left_out))

pub counted_from : (letter : ℕ) (parts : Parts) (bytes rest : List ℕ) → HeadingLine letter (heading_of parts) bytes rest → defined_count (heading_of parts) ≤ parts.max → parts.max ≤ MAX_VARIABLE → Counted parts
counted_from letter parts bytes rest line room low =
    let small = heading_small letter (heading_of parts) bytes rest line in
    record {
      max = low;
      room = room;
      outputs = small.1.1.1.0;
      bad = small.1.1.1.1.1.0;
      constraints = small.1.1.1.1.1.1.0;
      justice = small.1.1.1.1.1.1.1.0;
      fairness = small.1.1.1.1.1.1.1.1.0;
    }

pub fitting_of : (parts : Parts) (bytes rest : List ℕ) → AllByRecursion (IsVariable parts.max) parts.inputs → AllByRecursion (LatchFits parts.max) parts.latches → AllByRecursion (GateFits parts.max) parts.gates
    → PropertyLines (heading_of parts) (properties_of parts) bytes rest → Fitting parts
fitting_of parts bytes rest inputs latches gates p = record {
  inputs = inputs;
  latches = latches;
  gates = gates;
  outputs = p.outputs.2;
  bad = p.bad.2;
  constraints = p.constraints.2;
  justice = p.justice.2;
  sizes = p.sizes.2;
  fairness = p.fairness.2;
}

-- ---- names

pub names_split : (counts : Counts) (symbols : List Symbol) (bytes rest : List ℕ) → LinesOf (FittingLine counts) symbols bytes rest → LinesOf SymbolLine symbols bytes rest × AllByRecursion (λ s. Fits counts s × Lacks s.name 10) symbols
names_split counts [] bytes rest s = (s, tt)
names_split counts (x ∷ symbols) bytes rest s = let p = names_split counts symbols s.0 rest s.2 in ((s.0, s.1.1, p.0), ((s.1.0, s.1.1.4.first), p.1))

pub names_join : (counts : Counts) (symbols : List Symbol) (bytes rest : List ℕ) → LinesOf SymbolLine symbols bytes rest → AllByRecursion (Fits counts) symbols → LinesOf (FittingLine counts) symbols bytes rest
names_join counts [] bytes rest s all = s
names_join counts (x ∷ symbols) bytes rest s all = (s.0, (all.0, s.1), names_join counts symbols s.0 rest s.2 all.1)

elements : (parts : Parts) (names : Names) (symbols : List Symbol) → AllByRecursion (λ s. Fits (counts_of (heading_of parts)) s × Lacks s.name 10) symbols → AllByRecursion (NamesElement (model_of parts names)) symbols
elements parts names [] all = tt
elements parts names (x ∷ symbols) all = (record { fits = all.0.0; one_line = all.0.1 }, elements parts names symbols all.1)

pub fits : (parts : Parts) (names : Names) (symbols : List Symbol) → AllByRecursion (NamesElement (model_of parts names)) symbols → AllByRecursion (Fits (counts_of (heading_of parts))) symbols
fits parts names [] all = tt
fits parts names (x ∷ symbols) all = (all.0.fits, fits parts names symbols all.1)

-- ---- models

pub is_model : (parts : Parts) (names : Names) (bytes : List ℕ) → AreInRange parts → AreNames (counts_of (heading_of parts)) names bytes → IsChecked (circuit_of parts)
    → AreDefined (circuit_of parts) (parts.outputs ++ parts.bad) → IsModel (model_of parts names)
is_model parts names bytes range s checked all =
    let symbols = names_split (counts_of (heading_of parts)) names.symbols bytes s.at_comment s.symbols in
    record {
      checked = checked;
      limits = range.limits;
      literals = range.literals;
      defined = all;
      outputs = range.outputs;
      bad = range.bad;
      symbols = All-from_recursion (NamesElement (model_of parts names)) names.symbols (elements parts names names.symbols symbols.1);
      comment = s.no_digit;
    }

abbrev pub parts_in : Model → Parts
parts_in m = record {
  max = m.circuit.max;
  inputs = m.circuit.inputs;
  latches = m.circuit.latches;
  gates = m.circuit.gates;
  outputs = m.outputs;
  bad = m.bad;
  constraints = m.circuit.constraints;
  justice = m.circuit.justice;
  fairness = m.circuit.fairness;
}

pub model_range : (m : Model) → IsModel m → AreInRange (parts_in m)
model_range m is = record { variables = is.checked.in_range; limits = is.limits; literals = is.literals; outputs = is.outputs; bad = is.bad }
