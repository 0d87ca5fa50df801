use Rattle.std.proofs.Common.{◌≡◌}
use Rattle.model_gen.specs.Draws.{state_after, draw}
use Rattle.model_gen.specs.Generated.{made, literal_drawn}
use Rattle.model_gen.proofs.kinds.draw_literals.Given as goal

abbrev pub invariant-loop-k : goal.invariant-loop-k
invariant-loop-k l = record {
  literals : l.literals ≡ made (λ k. literal_drawn l.n (draw l.fn.generator.state k)) l.k;
  state : l.generator.state ≡ state_after l.fn.generator.state l.k;
}
