use Rattle.std.proofs.Common.{◌∙◌, subst}
use Rattle.lasso_join.specs.Fitting.{IsStemTo}
use Rattle.ic3_semantics.specs.Searching.{Question}
use Rattle.ic3_semantics.specs.declared.questions.Start.TheVariants.{Initial}
use Rattle.ic3_semantics.specs.declared.questions.Goal.TheVariants as goals
use Rattle.fair_round.specs.Scopes.{entries_of}
use Rattle.fair_round.proofs.Steps.{path-part, closed-part, state-at, stem-path, stem-barred}
use Rattle.fair_round.proofs.ways.stem.Goals as goal

pub returns-in-Path-clause-stem : goal.returns-in-Path-clause-stem
returns-in-Path-clause-stem c =
    let q : Question = record { circuit = c.args.scope.now.circuit.now; view = entries_of c.args.scope.now; start = Initial } in
    let at = c.as_slice.ensures ∙ state-at c.args.situations.now 0 c.index-situations-0.result c.requires.some in
    subst (λ t. IsStemTo c.args.scope.now.circuit.now t c.in-Path.positions) at
    (stem-path c.args.scope.now.circuit.now (entries_of c.args.scope.now) c.as_slice.result.now c.in-Path.positions
    (path-part q (goals.State c.as_slice.result) c.in_ok-positions.field-0 c.in-Path.positions c.in-Path.is c.in_ok-positions.ensures.reached))

pub returns-in-Closed-clause-stem : goal.returns-in-Closed-clause-stem
returns-in-Closed-clause-stem c =
    let q : Question = record { circuit = c.args.scope.now.circuit.now; view = entries_of c.args.scope.now; start = Initial } in
    let at = c.as_slice.ensures ∙ state-at c.args.situations.now 0 c.index-situations-0.result c.requires.some in
    let s = closed-part q (goals.State c.as_slice.result) c.in_ok-positions.field-0 c.in-Closed.clauses c.in-Closed.uses c.in-Closed.is c.in_ok-positions.ensures.reached in
    stem-barred c.args.scope.now.circuit.now (entries_of c.args.scope.now) c.args.situations.now c.as_slice.result.now c.in-Closed.clauses c.in-Closed.uses
    c.requires.some at s.over s.valid s.base s.misses
