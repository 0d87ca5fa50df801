use Rattle.std.proofs.Common.{length, sym, subst}
use Rattle.ic3_semantics.specs.Stepping.{IsOver}
use Rattle.ic3_tests.proofs.stepping.predecessor_of.Goals as goal

pub predecessor_under-found-requires-clause-lemma : goal.predecessor_under-found-requires-clause-lemma
predecessor_under-found-requires-clause-lemma c =
    subst (λ st. IsOver (length st.question.circuit.latches) c.args.lemma.1.now) (sym c.in_ok-steps.ensures) c.requires.lemma

pub predecessor_under-found-requires-clause-cube : goal.predecessor_under-found-requires-clause-cube
predecessor_under-found-requires-clause-cube c =
    subst (λ st. IsOver (length st.question.circuit.latches) c.args.cube.now) (sym c.in_ok-steps.ensures) c.requires.cube
