use Rattle.std.proofs.Common.{◌-◌, [], length, get_or, ap, ◌∙◌, subst, arith}
use Rattle.fair_semantics.specs.declared.skeletons.Situation.{Situation}
use Rattle.lasso_join.specs.Fitting.{LeadsTo}
use Rattle.fair_round.specs.Scopes.{entries_of}
use Rattle.fair_round.specs.Walks.{states}
use Rattle.ic3_semantics.specs.Searching.{Question}
use Rattle.ic3_semantics.specs.declared.questions.Start.TheVariants.{State}
use Rattle.ic3_semantics.specs.declared.questions.Goal.TheVariants as goals
use Rattle.fair_round.proofs.Steps.{path-part, closed-part, state-at, successor-at, way-path, closing-barred}
use Rattle.fair_round.proofs.ways.closing.Goals as goal

pub returns-in-Path-clause-way : goal.returns-in-Path-clause-way
returns-in-Path-clause-way c =
    let q : Question = record { circuit = c.args.scope.now.circuit.now; view = entries_of c.args.scope.now; start = State c.in_ok-try_copy.field-0 } in
    let n = length c.args.situations.now in
    let from = c.in_ok-try_copy.ensures ∙ ap (λ (s : Situation). s.successor) c.index-situations-situations.is ∙ successor-at c.args.situations.now (n - 1) c.index-situations-situations.result (omega (arith, c.requires.some)) in
    let to = c.as_slice.ensures ∙ state-at c.args.situations.now 0 c.index-situations-0.result c.requires.some in
    let h = way-path c.args.scope.now.circuit.now (entries_of c.args.scope.now) c.in_ok-try_copy.field-0 c.as_slice.result.now c.in-Path.positions
    (path-part q (goals.State c.as_slice.result) c.in_ok-positions.field-0 c.in-Path.positions c.in-Path.is c.in_ok-positions.ensures.reached)
    in
    subst (λ s. LeadsTo c.args.scope.now.circuit.now s (get_or (states c.args.situations.now) 0 []) c.in-Path.positions) from (subst (λ t. LeadsTo c.args.scope.now.circuit.now c.in_ok-try_copy.field-0 t c.in-Path.positions) to h)

pub returns-clause-way : goal.returns-clause-way
returns-clause-way c =
    let q : Question = record { circuit = c.args.scope.now.circuit.now; view = entries_of c.args.scope.now; start = State c.in_ok-try_copy.field-0 } in
    let n = length c.args.situations.now in
    let from = c.in_ok-try_copy.ensures ∙ ap (λ (s : Situation). s.successor) c.index-situations-situations.is ∙ successor-at c.args.situations.now (n - 1) c.index-situations-situations.result (omega (arith, c.requires.some)) in
    let to = c.as_slice.ensures ∙ state-at c.args.situations.now 0 c.index-situations-0.result c.requires.some in
    let s = closed-part q (goals.State c.as_slice.result) c.in_ok-positions.field-0 c.in-Closed.clauses c.in-Closed.uses c.in-Closed.is c.in_ok-positions.ensures.reached in
    closing-barred c.args.scope.now.circuit.now (entries_of c.args.scope.now) c.args.situations.now c.in_ok-try_copy.field-0 c.as_slice.result.now c.in-Closed.clauses c.in-Closed.uses
    c.requires.some from to s.over s.valid s.holds s.misses
