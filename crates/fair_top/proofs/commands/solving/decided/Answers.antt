use Rattle.std.proofs.Common.{rules, ◌≡◌, ◌∙◌, ap, Bool, true, false}
use Rattle.fair_top.specs.Solve.{asked_in}
use Rattle.fair_top.proofs.Decided.{printed_by, sheet_by, one_answered}
use Rattle.fair_top.proofs.Begun.{one_there}
use Rattle.fair_top.proofs.commands.solving.decided.Goals as goal

pub sheet_printed-requires-clause-each : goal.sheet_printed-requires-clause-each
sheet_printed-requires-clause-each c =
    let all : c.args.request.now.all ≡ true = search rules in
    c.requires.answered.1.board.properties ∙ ap (λ (b : Bool). asked_in b c.args.circuit.now c.args.request.now.property) all

pub returns-then-request-clause-found : goal.returns-then-request-clause-found
returns-then-request-clause-found c = λ given answered.
    let all : c.args.request.now.all ≡ true = search rules in
    sheet_by c.args.circuit.now c.args.request.now given c.args.board.now c.sheet_printed.result all answered c.sheet_printed.ensures.found

pub printed-requires-clause-answered : goal.printed-requires-clause-answered
printed-requires-clause-answered c =
    let one : c.args.request.now.all ≡ false = search rules in
    (c.requires.answered.0, one_answered c.args.circuit.now c.args.request.now c.requires.answered.0 c.args.board.now one c.requires.answered.1)

pub printed-requires-clause-property : goal.printed-requires-clause-property
printed-requires-clause-property c =
    let one : c.args.request.now.all ≡ false = search rules in
    one_there c.args.circuit.now c.args.request.now one c.requires.property

pub returns-clause-found : goal.returns-clause-found
returns-clause-found c = λ given answered.
    let one : c.args.request.now.all ≡ false = search rules in
    printed_by c.args.circuit.now c.args.request.now given answered.board.entries.0 c.args.board.now c.printed.result one answered.board.limit answered.board.entries.1
    c.printed.ensures.found c.printed.ensures.text
