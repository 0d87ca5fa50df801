use Rattle.ic3_semantics.specs.Searching.{Question}
use Rattle.ic3_semantics.specs.declared.questions.Start.TheVariants.{Initial}
use Rattle.ic3_semantics.specs.declared.questions.Goal.TheVariants as goals
use Rattle.fair_round.specs.Scopes.{entries_of}
use Rattle.fair_round.proofs.Steps.{path-part, closed-part}
use Rattle.fair_round.proofs.Stems.{literal-path, literal-barred, cubes-over}
use Rattle.fair_round.proofs.ways.literal_stem.Goals as goal

pub asked_on-requires-clause-goal : goal.asked_on-requires-clause-goal
asked_on-requires-clause-goal c =
    (c.fair_literal.ensures.range, cubes-over c.args.scope.now.circuit.now c.args.scope.now.property (entries_of c.args.scope.now) c.args.avoid.now c.requires.avoid)

pub returns-in-Path-clause-stem : goal.returns-in-Path-clause-stem
returns-in-Path-clause-stem c =
    let q : Question = record { circuit = c.args.scope.now.circuit.now; view = entries_of c.args.scope.now; start = Initial } in
    literal-path c.args.scope.now.circuit.now (entries_of c.args.scope.now) c.fair_literal.result c.args.avoid.now c.in-Path.positions
    (path-part q (goals.Literal c.fair_literal.result c.args.avoid) c.in_ok-positions.field-0 c.in-Path.positions c.in-Path.is c.in_ok-positions.ensures.reached)

pub returns-in-Closed-clause-stem : goal.returns-in-Closed-clause-stem
returns-in-Closed-clause-stem c =
    let q : Question = record { circuit = c.args.scope.now.circuit.now; view = entries_of c.args.scope.now; start = Initial } in
    let s = closed-part q (goals.Literal c.fair_literal.result c.args.avoid) c.in_ok-positions.field-0 c.in-Closed.clauses c.in-Closed.uses c.in-Closed.is c.in_ok-positions.ensures.reached in
    literal-barred c.args.scope.now.circuit.now c.args.scope.now.property (entries_of c.args.scope.now) c.args.situations.now c.fair_literal.result c.args.avoid.now c.in-Closed.clauses c.in-Closed.uses
    c.requires.allowed c.requires.some c.fair_literal.ensures.value c.requires.avoid s.over s.valid s.base s.misses
