use Rattle.ledger_tests.proofs.Modelling.{allowed_by}
use Rattle.ledger_tests.proofs.finds.allows.Goals as goal

pub returns : goal.returns
returns c = λ bars. allowed_by c.args.view.now c.args.skeleton.now (c.none_bars.ensures bars)
