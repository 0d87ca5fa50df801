use Rattle.std.proofs.Common.{sym, ap, ◌∙◌}
use Rattle.entry.specs.CheckedEntries.{viewed}
use Rattle.wall_store.specs.Boards.{plain}
use Rattle.wall_store.proofs.Excluding.{viewed-plain}
use Rattle.wall_ledger.specs.Passes.{PassState}
use Rattle.wall_ledger.proofs.ledger.Pass.view.Goals as goal

pub returns-clause-viewed : goal.returns-clause-viewed
returns-clause-viewed c =
    ap viewed c.as_slice.ensures.value
    ∙ (viewed-plain c.self.inside.hand.entries.items
    ∙ (ap plain (sym c.self.invariant.mirror.list) ∙ ap (λ (p : PassState). plain p.list) c.self.view_is))
