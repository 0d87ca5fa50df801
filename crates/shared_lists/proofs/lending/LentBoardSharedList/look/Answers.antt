use Rattle.shared_lists.proofs.LentBoards.{look-known}
use Rattle.shared_lists.proofs.lending.LentBoardSharedList.look.Goals as goal

pub returns-clause-ok : goal.returns-clause-ok
returns-clause-ok c =
    let s = c.args.self.now in
    look-known s.number s.turns s.board c.look.new.self c.requires.kept.board c.requires.kept.number c.look.ensures.after
