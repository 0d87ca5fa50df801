use Rattle.shared_lists.proofs.HeldPasses.{opened-known, opened-held}
use Rattle.shared_lists.proofs.held.HeldSharedList.next_open.Goals as goal

pub returns-clause-asked : goal.returns-clause-asked
returns-clause-asked g c =
    let s = c.args.self.now in
    opened-known s.ledger.now s.pass c.next_open.new.pass c.args.from c.next_open.result c.requires.kept c.next_open.ensures

pub returns-clause-on : goal.returns-clause-on
returns-clause-on g c =
    let s = c.args.self.now in
    opened-held s.ledger.now s.pass c.next_open.new.pass c.args.from c.next_open.result c.requires.kept c.next_open.ensures
