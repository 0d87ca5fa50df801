use Rattle.std.proofs.Common.{ap, ◌∙◌}
use Rattle.entry.specs.CheckedEntries.{viewed}
use Rattle.wall_store.specs.Boards.{BoardState, plain}
use Rattle.wall_store.proofs.Excluding.{viewed-plain}
use Rattle.wall_store.proofs.board.Board.entries.Goals as goal

pub returns-clause-viewed : goal.returns-clause-viewed
returns-clause-viewed c =
    ap viewed c.as_slice.ensures.value ∙ viewed-plain c.self.inside.entries.items ∙ ap (λ (b : BoardState). plain b.entries) c.self.view_is
