use Rattle.std.proofs.lemmas.Result.{on_ok_weaker, on_err_weaker}
use Rattle.wall_ledger.specs.Turns.{HasLooked, IsRefused}
use Rattle.shared_lists.specs.Holding.{StaysHeld}
use Rattle.shared_lists.proofs.HeldPasses.{on-either, looked-known, refused-known, looked-held, refused-held}
use Rattle.shared_lists.proofs.held.HeldSharedList.look.Goals as goal

pub returns-clause-ok : goal.returns-clause-ok
returns-clause-ok g c =
    let s = c.args.self.now in
    on_ok_weaker c.look.result (looked-known s.ledger.now s.pass c.look.new.pass) c.look.ensures.ok

pub returns-clause-err : goal.returns-clause-err
returns-clause-err g c =
    let s = c.args.self.now in
    on_err_weaker c.look.result (refused-known s.ledger.now s.pass c.look.new.pass) c.look.ensures.err

pub returns-clause-on : goal.returns-clause-on
returns-clause-on g c =
    let s = c.args.self.now in
    let l = s.ledger.now in
    let q = c.look.new.pass in
    on-either (HasLooked l s.pass q) (IsRefused s.pass q) (StaysHeld l s.pass l q) c.look.result c.look.ensures.ok c.look.ensures.err
    (looked-held l s.pass q c.requires.kept) (refused-held l s.pass q c.requires.kept)
