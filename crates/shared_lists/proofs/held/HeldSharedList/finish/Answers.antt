use Rattle.shared_lists.proofs.HeldPasses.{finished-known, finished-held}
use Rattle.shared_lists.proofs.held.HeldSharedList.finish.Goals as goal

pub returns-clause-finished : goal.returns-clause-finished
returns-clause-finished g c =
    let s = c.args.self.now in
    finished-known s.ledger.now s.pass c.finish.new.pass c.args.property c.args.outcome c.finish.result c.requires.kept c.requires.served c.finish.ensures

pub returns-clause-on : goal.returns-clause-on
returns-clause-on g c =
    let s = c.args.self.now in
    finished-held s.ledger.now s.pass c.finish.new.pass c.args.property c.args.outcome c.finish.result c.requires.kept c.finish.ensures
