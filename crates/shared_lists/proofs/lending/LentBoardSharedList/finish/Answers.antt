use Rattle.std.proofs.Common.{◌≡◌}
use Rattle.shared_lists.proofs.LentBoards.{true-on, finish-known, finish-lent}
use Rattle.shared_lists.proofs.lending.LentBoardSharedList.finish.Goals as goal

pub finish-requires-clause-outcome : goal.finish-requires-clause-outcome
finish-requires-clause-outcome c =
    let s = c.args.self.now in
    let e : c.deref.result.now ≡ c.args.self.now.board.circuit = cc in
    true-on c.deref.result.now s.board s.number c.args.property c.args.outcome e c.outcomes_stay.ensures c.requires.outcome

pub returns-clause-finished : goal.returns-clause-finished
returns-clause-finished c =
    let s = c.args.self.now in
    finish-known s.number s.turns s.board c.finish.new.self c.args.property c.args.outcome c.finish.result c.requires.served c.finish.ensures

pub returns-clause-on : goal.returns-clause-on
returns-clause-on c =
    let s = c.args.self.now in
    finish-lent s c.finish.new.self c.args.property c.args.outcome c.finish.result c.requires.kept c.holds.ensures c.finish.ensures
