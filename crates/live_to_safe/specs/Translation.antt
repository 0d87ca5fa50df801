-- Liveness to safety: a circuit and one of its justice properties as a model with one bad state literal, after Biere,
-- Artho, Schuppan, Liveness Checking as Safety Checking (FMICS 2002). The state is saved once, at a position that an input
-- chooses: the start of a loop. The bad state literal is true where the saved state comes again, after each literal of the
-- property and of fairness was true at a position from there on. The order of variables and gates is this program's.
use Rattle.std.specs.Prelude.{ℕ, List, [], ◌∷◌, ◌++◌, None}
use Rattle.aig_semantics.specs.Circuits.{Circuit, fair_literals}
use Rattle.aiger_grammar.specs.Models.{Model}
use Rattle.live_to_safe.specs.Numbers.{sizes_of, save, greatest}
use Rattle.live_to_safe.specs.Watching.{new_latches, new_gates, bad_literal}

-- the circuit with one input more, and with latches and gates that watch it; its constraints stay
abbrev pub safety_circuit : Circuit → ℕ → Circuit
safety_circuit c j =
    let z = sizes_of c j in
    record {
      max = greatest z;
      inputs = c.inputs ++ save z ∷ [];
      latches = c.latches ++ new_latches z;
      gates = c.gates ++ new_gates z c.latches (fair_literals c j);
      constraints = c.constraints;
      justice = [];
      fairness = [];
    }

-- the translation of property j
abbrev pub safety_model : Circuit → ℕ → Model
safety_model c j = record {
  circuit = safety_circuit c j;
  outputs = [];
  bad = bad_literal (sizes_of c j) ∷ [];
  names = record { symbols = []; comment = None };
}
