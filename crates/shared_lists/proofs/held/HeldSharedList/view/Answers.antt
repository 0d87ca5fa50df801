use Rattle.shared_lists.proofs.HeldPasses.{good-pass}
use Rattle.shared_lists.proofs.held.HeldSharedList.view.Goals as goal

pub returns-clause-good : goal.returns-clause-good
returns-clause-good g c =
    let s = c.args.self.now in
    good-pass s.ledger.now s.pass c.requires c.holds.ensures.few c.holds.ensures.sound
