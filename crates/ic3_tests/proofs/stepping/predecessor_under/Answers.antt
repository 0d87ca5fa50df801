use Rattle.std.proofs.Common.{length, sym, subst}
use Rattle.ic3_semantics.specs.Stepping.{IsOver}
use Rattle.ic3_tests.proofs.stepping.predecessor_under.Goals as goal

pub predecessor-requires : goal.predecessor-requires
predecessor-requires c =
    subst (λ st. IsOver (length st.question.circuit.latches) c.args.cube.now) (sym c.in_ok-hold.ensures.ok) c.requires.cube
