-- A model: a circuit with its outputs, its bad state literals and its names (AIGER 1.9; Biere, Heljanko, Wieringa, 2011).
use Rattle.std.specs.Prelude.{◌≡◌, ℕ, ◌+◌, ◌*◌, ◌≤◌, ◌++◌, List, length, IfSome, false}
use Rattle.std.specs.List.{All}
use Rattle.aig_semantics.specs.declared.limits.TheConstants.{MAX_NUMBER}
use Rattle.aig_semantics.specs.Circuits.{Circuit, IsChecked, IsWithinLimits, AreDefined}
use Rattle.text_grammar.specs.Numerals.{begins_with_digit}
use Rattle.text_grammar.specs.Pieces.{Lacks}
use Rattle.aiger_grammar.specs.declared.names.Symbol.{Symbol}
use Rattle.aiger_grammar.specs.declared.names.Names.{Names}
use Rattle.aiger_grammar.specs.declared.sections.Heading.{Heading}
use Rattle.aiger_grammar.specs.Names.{Fits, counts_of}

pub record Model : Type 0 where
  pub circuit : Circuit
  pub outputs : List ℕ
  pub bad : List ℕ
  pub names : Names

-- the greatest variable of a model, and how many elements each of its lists has
abbrev pub heading_of : Model → Heading
heading_of m = record {
  max = m.circuit.max;
  inputs = length m.circuit.inputs;
  latches = length m.circuit.latches;
  outputs = length m.outputs;
  gates = length m.circuit.gates;
  bad = length m.bad;
  constraints = length m.circuit.constraints;
  justice = length m.circuit.justice;
  fairness = length m.circuit.fairness;
}

-- the symbol names an element of the model, on one line
pub record NamesElement (m : Model) (symbol : Symbol) : Type 0 where
  pub fits : Fits (counts_of (heading_of m)) symbol
  pub one_line : Lacks symbol.name 10

-- a checked circuit within the limits, with outputs, bad state literals and names that fit it
pub record IsModel (m : Model) : Type 0 where
  pub checked : IsChecked m.circuit
  pub limits : IsWithinLimits m.circuit
  pub literals : All (λ literal. literal ≤ 2 * m.circuit.max + 1) (m.outputs ++ m.bad)
  pub defined : AreDefined m.circuit (m.outputs ++ m.bad)
  pub outputs : length m.outputs ≤ MAX_NUMBER
  pub bad : length m.bad ≤ MAX_NUMBER
  pub symbols : All (NamesElement m) m.names.symbols
  pub comment : IfSome m.names.comment (λ text. begins_with_digit text ≡ false)
