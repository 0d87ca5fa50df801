use Rattle.std.proofs.Common.{◌≡◌, ◌+◌, ◌++◌, drop, length}
use Rattle.text_grammar.specs.Lines.{ended_lines}
use Rattle.aig_semantics.specs.Stimuli.{simulated, state_after}
use Rattle.waves.specs.Dumps.{run_lines}
use Rattle.waves.proofs.dumps.push_run.Given as goal

abbrev pub invariant-loop-k : goal.invariant-loop-k
invariant-loop-k l = record {
  text : l.out.items ++ ended_lines (run_lines l.dump.circuit.now l.dump.from l.dump.signals.now (l.start + l.k) (simulated l.dump.circuit.now l.latches (drop l.k l.inputs)))
      ≡ l.fn.out.items ++ ended_lines (run_lines l.dump.circuit.now l.dump.from l.dump.signals.now l.start (simulated l.dump.circuit.now l.fn.latches l.inputs));
  state : state_after l.dump.circuit.now l.latches (drop l.k l.inputs) ≡ state_after l.dump.circuit.now l.fn.latches l.inputs;
  latches : length l.latches ≡ length l.dump.circuit.now.latches;
  values : length l.values ≡ l.dump.circuit.now.max + 1;
}
