use Rattle.std.proofs.Common.{◌≡◌, ◌*◌}
use Rattle.model_gen.specs.Draws.{state_after}
use Rattle.model_gen.specs.Generated.{made, scrambled_gate}
use Rattle.model_gen.proofs.kinds.scramble_gates.Given as goal

abbrev pub invariant-loop-k : goal.invariant-loop-k
invariant-loop-k l = record {
  gates : l.gates ≡ made (scrambled_gate l.fn.generator.state l.n) l.k;
  state : l.generator.state ≡ state_after l.fn.generator.state (2 * l.k);
}
