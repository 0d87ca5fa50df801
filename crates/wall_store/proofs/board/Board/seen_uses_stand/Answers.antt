use Rattle.wall_store.proofs.Kept.{seen_stand}
use Rattle.wall_store.proofs.board.Board.seen_uses_stand.Goals as goal

pub returns : goal.returns
returns c = seen_stand c.args.self.now c.older_views.ensures.stand c.older_views.ensures.uses
