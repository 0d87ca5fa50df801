use Rattle.std.proofs.Common.{◌≤◌, length, subst, arith}
use Rattle.wall_store.specs.Boards.{IsSoundList, most_entries}
use Rattle.wall_ledger.specs.Passes.{PassState}
use Rattle.wall_ledger.proofs.ledger.Pass.holds.Goals as goal

pub returns-clause-sound : goal.returns-clause-sound
returns-clause-sound c = subst (λ (p : PassState). IsSoundList p.home.first.circuit p.list) c.self.view_is c.self.invariant.mirror.sound

pub returns-clause-few : goal.returns-clause-few
returns-clause-few c =
    subst (λ (p : PassState). length p.list ≤ most_entries) c.self.view_is
    (let a = c.self.invariant.mirror.within in let b = c.self.invariant.mirror.few in omega arith)
