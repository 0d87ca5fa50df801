use Rattle.certificate.proofs.Judged.{check_says, check_exactly, check_shows}
use Rattle.certificate.proofs.checking.check_with_lasso.Goals as goal

pub returns-clause-found : goal.returns-clause-found
returns-clause-found g c =
    check_says c.args.circuit.now (g.H.Shelf.held c.args.shelf.now c.args.name.now) c.read_answer.result c.read_answer.ensures.found

pub returns-clause-exactly : goal.returns-clause-exactly
returns-clause-exactly g c =
    check_exactly c.args.circuit.now (g.H.Shelf.held c.args.shelf.now c.args.name.now) c.read_answer.result c.read_answer.ensures.exactly

pub returns-clause-shown : goal.returns-clause-shown
returns-clause-shown g c =
    check_shows c.args.circuit.now (g.H.Shelf.held c.args.shelf.now c.args.name.now) c.read_answer.result c.good_answers_are_true.ensures c.read_answer.ensures.found
