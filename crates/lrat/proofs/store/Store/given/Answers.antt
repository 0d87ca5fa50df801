use Rattle.std.proofs.Common.{sym}
use Rattle.lrat.proofs.StoreLaws.{given_count}
use Rattle.lrat.proofs.store.Store.given.Goals as goal

pub returns : goal.returns
returns c = sym (given_count c.self.inside c.args.self.now c.self.invariant c.self.view_is)
