use Rattle.std.proofs.Common.{get_or, ◌∙◌}
use Rattle.std.proofs.lemmas.List.{get_or_default}
use Rattle.fair_workers.specs.declared.board_workers.BoardWorker.{BoardWorker}
use Rattle.fair_workers.proofs.Together.{workers-turn, follows-turn, less-turn, runs-here}
use Rattle.fair_workers.proofs.board_workers.turn_of.Goals as goal

pub returns-clause-workers : goal.returns-clause-workers
returns-clause-workers c =
    let w : BoardWorker = get_or c.args.workers.now c.args.k c.index-workers-k.result in
    workers-turn c.args.task.now.limits c.args.board c.turn_on_board-after.result c.args.workers.now c.args.k w c.turn_on_board-after.new.own
    c.holds.ensures c.holds-2.ensures c.requires.workers c.requires.inside (get_or_default c.args.workers.now c.args.k c.index-workers-k.result w c.requires.inside)
    c.turn_on_board-after.ensures

pub returns-clause-follows : goal.returns-clause-follows
returns-clause-follows c =
    let d : BoardWorker = c.index-workers-k.result in
    let w : BoardWorker = get_or c.args.workers.now c.args.k d in
    follows-turn c.args.board c.turn_on_board-after.result w c.turn_on_board-after.new.own c.holds.ensures c.holds-2.ensures (c.requires.workers.each c.args.k d c.requires.inside)
    (runs-here c.args.workers.now c.args.k d c.requires.inside ∙ c.requires.running) c.turn_on_board-after.ensures

pub returns-clause-less : goal.returns-clause-less
returns-clause-less c =
    let w : BoardWorker = get_or c.args.workers.now c.args.k c.index-workers-k.result in
    less-turn c.args.task.now.limits c.args.board c.turn_on_board-after.result c.args.workers.now c.args.k w c.turn_on_board-after.new.own
    c.holds.ensures c.requires.workers c.requires.inside (get_or_default c.args.workers.now c.args.k c.index-workers-k.result w c.requires.inside)
    c.turn_on_board-after.ensures
