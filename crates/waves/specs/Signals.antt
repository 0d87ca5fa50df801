-- Signals: the variables of a dump, with names of their own and numbered identifiers.
use Rattle.std.specs.Prelude.{List, [], ◌∷◌, ◌++◌, length, fold, ℕ}
use Rattle.aiger_grammar.specs.Models.{Model}
use Rattle.waves.specs.declared.wires.Wire.{Wire}
use Rattle.waves.specs.declared.buses.Variable.{Variable}
use Rattle.waves.specs.declared.signals.Signal.{Signal}
use Rattle.waves.specs.Names.{label, set_apart, enough, identifier}
use Rattle.waves.specs.Buses.{variables_of}

-- the label of the first wire, which of a bus has the highest index
abbrev pub label_of : List Wire → List ℕ
label_of [] = []
label_of (w ∷ wires) = label w

abbrev pub next_signal : List Signal → Variable → Signal
next_signal signals v = record {
  wires = v.wires;
  low = v.low;
  name = set_apart (enough signals) signals (label_of v.wires) v.name;
  code = identifier (length signals);
}

abbrev pub with_signal : List Signal → Variable → List Signal
with_signal signals v = signals ++ next_signal signals v ∷ []

abbrev pub signals_of : Model → ℕ → List Signal
signals_of m j = fold with_signal [] (variables_of m j)
