-- The model of its parts.
use Rattle.std.specs.Prelude.{ℕ, List}
use Rattle.aig_semantics.specs.Circuits.{Circuit}
use Rattle.aiger_grammar.specs.declared.names.Names.{Names}
use Rattle.aiger_grammar.specs.Models.{Model}

abbrev pub joined : Circuit → List ℕ → List ℕ → Names → Model
joined circuit outputs bad names = record { circuit = circuit; outputs = outputs; bad = bad; names = names }
