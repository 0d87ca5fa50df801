use Rattle.std.proofs.Common.{◌-◌, [], refl, ◌∙◌, arith}
use Rattle.ic3_semantics.specs.Searching.{Question}
use Rattle.ic3_semantics.specs.declared.questions.Start.TheVariants.{State}
use Rattle.ic3_semantics.specs.declared.questions.Goal.TheVariants as goals
use Rattle.fair_round.specs.Scopes.{entries_of}
use Rattle.fair_round.proofs.Steps.{path-part, closed-part, successor-at, step-of, step-barred, literals-behind}
use Rattle.fair_round.proofs.walking.advance_to.Goals as goal

pub returns-in-Path-clause-advance : goal.returns-in-Path-clause-advance
returns-in-Path-clause-advance c =
    let q : Question = record { circuit = c.args.scope.now.circuit.now; view = entries_of c.args.scope.now; start = State c.in_ok-try_copy.field-0 } in
    let from = c.in_ok-try_copy.ensures ∙ successor-at c.args.situations.now (c.args.k - 1) c.index-situations-k.result (omega (arith, c.requires.inside, c.requires.behind)) in
    step-of c.args.scope.now.circuit.now c.args.scope.now.property (entries_of c.args.scope.now) c.args.situations.now c.args.k c.in_ok-try_copy.field-0 c.fair_literal.result [] c.in-Path.positions
    c.in_ok-piece_to-in-Path.field-0 c.requires.allowed c.requires.behind c.requires.inside from c.fair_literal.ensures.value
    (path-part q (goals.Literal c.fair_literal.result (record { ref_ptr = _; now = [] })) c.in_ok-positions.field-0 c.in-Path.positions c.in-Path.is c.in_ok-positions.ensures.reached)
    c.in_ok-piece_to-in-Path.ensures

pub returns-clause-advance : goal.returns-clause-advance
returns-clause-advance c =
    let q : Question = record { circuit = c.args.scope.now.circuit.now; view = entries_of c.args.scope.now; start = State c.in_ok-try_copy.field-0 } in
    let from = c.in_ok-try_copy.ensures ∙ successor-at c.args.situations.now (c.args.k - 1) c.index-situations-k.result (omega (arith, c.requires.inside, c.requires.behind)) in
    let s = closed-part q (goals.Literal c.fair_literal.result (record { ref_ptr = _; now = [] })) c.in_ok-positions.field-0 c.in-Closed.clauses c.in-Closed.uses c.in-Closed.is c.in_ok-positions.ensures.reached in
    step-barred c.args.scope.now.circuit.now c.args.scope.now.property (entries_of c.args.scope.now) c.args.situations.now c.args.k c.in_ok-try_copy.field-0 c.fair_literal.result [] c.in-Closed.clauses c.in-Closed.uses
    c.requires.allowed c.requires.behind c.requires.inside
    (literals-behind c.args.scope.now.circuit.now c.args.scope.now.property c.args.situations.now c.args.k c.requires.allowed.skeleton c.requires.behind c.requires.inside)
    from c.fair_literal.ensures.value refl s.over s.valid s.holds s.misses
