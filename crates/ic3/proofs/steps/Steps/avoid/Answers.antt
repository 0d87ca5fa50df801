use Rattle.std.proofs.Common.{subst, length}
use Rattle.cnf_unroll.specs.Laws.{AreOver}
use Rattle.ic3_semantics.specs.Stepping.{Stepping}
use Rattle.ic3.proofs.steps.Steps.avoid.Goals as goal

pub returns-clause-over : goal.returns-clause-over
returns-clause-over c =
    subst (λ (x : Stepping). AreOver (length x.question.circuit.latches) x.avoid) c.self.view_is c.self.invariant.by.avoid
