use Rattle.std.proofs.Common.{◌≡◌, ◌*◌}
use Rattle.model_gen.specs.Draws.{state_after}
use Rattle.model_gen.specs.Generated.{made, scrambled_latch}
use Rattle.model_gen.proofs.kinds.scramble_latches.Given as goal

abbrev pub invariant-loop-i : goal.invariant-loop-i
invariant-loop-i l = record {
  latches : l.latches ≡ made (scrambled_latch l.fn.generator.state l.n) l.i;
  state : l.generator.state ≡ state_after l.fn.generator.state (2 * l.i);
}
