use Rattle.std.proofs.Common.{sym}
use Rattle.ic3_semantics.specs.Searching.{Separates, closed_entry}
use Rattle.ic3_semantics.specs.declared.questions.Start.TheVariants.{Initial}
use Rattle.ic3_semantics.specs.declared.questions.Goal.TheVariants as goals
use Rattle.lasso_join.proofs.Joined.{some-situation}
use Rattle.fair_round.specs.Scopes.{entries_of}
use Rattle.fair_round.specs.Stems.{question_of}
use Rattle.fair_round.proofs.Steps.{stem-barred}
use Rattle.fair_round.proofs.invariants.judged.Goals as goal

pub returns-clause-sought : goal.returns-clause-sought
returns-clause-sought c =
    let scope = c.args.scope.now in
    let k = c.args.scope.now.circuit.now in
    let view = entries_of c.args.scope.now in
    let is = c.requires.begun in
    let s : Separates (question_of c.args.scope.now Initial) (goals.State c.args.state) (closed_entry Initial c.args.clauses c.new-uses.result) =
    c.in_ok-separated.ensures.separates c.if-not-branch.false
    in (
      is.0,
      stem-barred k view c.args.skeleton.situations c.args.state.now c.args.clauses c.new-uses.result
          (some-situation k scope.property c.args.skeleton is.0.skeleton) (sym is.1) s.over s.valid s.base s.misses,
    )
