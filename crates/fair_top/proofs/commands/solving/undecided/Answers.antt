use Rattle.std.proofs.Common.{rules, ◌≡◌, true, false}
use Rattle.fair_top.proofs.Decided.{unknown_by, open_by}
use Rattle.fair_top.proofs.commands.solving.undecided.Goals as goal

pub sheet_open-requires : goal.sheet_open-requires
sheet_open-requires c = c.requires.report.1.board.circuit

pub returns-then-request-clause-found : goal.returns-then-request-clause-found
returns-then-request-clause-found c = λ given is.
    let all : c.args.request.now.all ≡ true = search rules in
    open_by c.args.circuit.now c.args.request.now given c.args.report c.sheet_open.result all is c.sheet_open.ensures.status c.sheet_open.ensures.text

pub returns-clause-found : goal.returns-clause-found
returns-clause-found c = λ given is.
    let one : c.args.request.now.all ≡ false = search rules in
    unknown_by c.args.circuit.now c.args.request.now given c.args.report c.with_text.result one is c.with_text.ensures.text
