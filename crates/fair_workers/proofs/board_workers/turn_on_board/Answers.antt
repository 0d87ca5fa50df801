use Rattle.fair_workers.proofs.Together.{board-turn}
use Rattle.fair_workers.proofs.board_workers.turn_on_board.Goals as goal

pub returns : goal.returns
returns c =
    board-turn c.args.board c.args.own.now c.take_turn.new.shared c.take_turn.new.worker c.holds.ensures c.requires.worker c.take_turn.ensures.on c.take_turn.ensures.turns
