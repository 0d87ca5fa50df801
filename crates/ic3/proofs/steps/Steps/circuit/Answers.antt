use Rattle.std.proofs.Common.{subst}
use Rattle.fair_semantics.specs.Validity.{AreValid}
use Rattle.ic3_semantics.specs.Stepping.{Stepping}
use Rattle.ic3.proofs.steps.Steps.circuit.Goals as goal

pub returns-clause-valid : goal.returns-clause-valid
returns-clause-valid c =
    subst (λ (x : Stepping). AreValid x.question.circuit x.question.view) c.self.view_is c.self.invariant.by.good.valid
