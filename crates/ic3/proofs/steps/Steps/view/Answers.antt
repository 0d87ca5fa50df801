use Rattle.std.proofs.Common.{subst, length}
use Rattle.std.specs.List.{All}
use Rattle.cnf_unroll.specs.Laws.{AreOver}
use Rattle.ic3_semantics.specs.Stepping.{Stepping}
use Rattle.ic3.proofs.steps.Steps.view.Goals as goal

pub returns-clause-over : goal.returns-clause-over
returns-clause-over c =
    subst (λ (x : Stepping). All (λ e. AreOver (length x.question.circuit.latches) e.clauses) x.question.view) c.self.view_is
    c.self.invariant.by.good.over
