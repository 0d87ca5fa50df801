-- k-liveness: a circuit with latches and gates that count the rounds of one of its justice properties, after Claessen,
-- Sörensson, A Liveness Checking Algorithm that Counts (FMCAD 2012). A round ends at the first position at which each
-- literal of the property and of fairness is true or was since the last one ended; counters say, in unary, how many have
-- ended, up to k. The order of variables and gates is this program's.
use Rattle.std.specs.Prelude.{ℕ, [], ◌++◌, None}
use Rattle.aig_semantics.specs.Circuits.{Circuit, fair_literals}
use Rattle.aiger_grammar.specs.Models.{Model}
use Rattle.round_monitor.specs.Numbers.{sizes_of, greatest}
use Rattle.round_monitor.specs.Watching.{new_latches, new_gates}

-- the circuit with latches and gates that count up to k rounds of property j; its constraints stay
abbrev pub monitor_circuit : Circuit → ℕ → ℕ → Circuit
monitor_circuit c j k =
    let z = sizes_of c j k in
    record {
      max = greatest z;
      inputs = c.inputs;
      latches = c.latches ++ new_latches z;
      gates = c.gates ++ new_gates z (fair_literals c j);
      constraints = c.constraints;
      justice = [];
      fairness = [];
    }

-- the monitor of property j and k rounds, as a model without properties
abbrev pub monitor_model : Circuit → ℕ → ℕ → Model
monitor_model c j k = record {
  circuit = monitor_circuit c j k;
  outputs = [];
  bad = [];
  names = record { symbols = []; comment = None };
}
