use Rattle.shared_lists.proofs.LentBoards.{seen-view, good-view}
use Rattle.shared_lists.proofs.lending.LentBoardSharedList.view.Goals as goal

pub returns-clause-viewed : goal.returns-clause-viewed
returns-clause-viewed c = seen-view c.entries.result.now c.args.self.now c.entries.ensures.viewed c.requires

pub returns-clause-good : goal.returns-clause-good
returns-clause-good c = good-view c.args.self.now.board c.args.self.now.number c.entries_are_good.ensures
