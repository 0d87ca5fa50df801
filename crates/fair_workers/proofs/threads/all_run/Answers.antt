use Rattle.std.proofs.Common.{arith}
use Rattle.wall_ledger.specs.Passes.{new_passes}
use Rattle.fair_workers.specs.Runs.{Task}
use Rattle.fair_workers.specs.BoardWorkers.{task_in}
use Rattle.fair_workers.proofs.Threaded.{have-ended, runners-size, back-of, all-back, of-back, all-done}
use Rattle.fair_workers.proofs.threads.all_run.Goals as goal

pub parted-passes-requires-clause-each : goal.parted-passes-requires-clause-each
parted-passes-requires-clause-each g c =
    let t = c.args.run.now.task.now in
    have-ended t.limits c.args.ledger c.args.runners.items c.run_listed.new.runners.items c.run_listed.ensures

pub parted-passes-requires-clause-room : goal.parted-passes-requires-clause-room
parted-passes-requires-clause-room g c =
    let t = c.args.run.now.task.now in
    let size = runners-size (task_in t) c.args.ledger c.args.runners.items c.requires.begun in (
      omega (arith, size, c.run_listed.ensures.0, c.requires.room.0, c.run_listed.new.runners.ok.0),
      omega (arith, size, c.run_listed.ensures.0, c.requires.room.1, c.run_listed.new.runners.ok.0),
    )

pub close-board-requires-clause-all : goal.close-board-requires-clause-all
close-board-requires-clause-all g c =
    let t = c.args.run.now.task.now in
    let task : Task = task_in t in
    let ps = c.parted-passes.result.0.items in
    let es = c.parted-passes.result.1.items in
    all-back task c.args.ledger ps es
    (back-of task c.args.ledger c.args.runners.items c.run_listed.new.runners.items ps es c.requires.begun c.run_listed.ensures
    c.parted-passes.ensures.passes c.parted-passes.ensures.ends)
    c.requires.begun.ledger.workers

pub close-board-requires-clause-own : goal.close-board-requires-clause-own
close-board-requires-clause-own g c =
    let t = c.args.run.now.task.now in
    let task : Task = task_in t in
    let ps = c.parted-passes.result.0.items in
    let es = c.parted-passes.result.1.items in
    of-back task c.args.ledger ps es
    (back-of task c.args.ledger c.args.runners.items c.run_listed.new.runners.items ps es c.requires.begun c.run_listed.ensures
    c.parted-passes.ensures.passes c.parted-passes.ensures.ends)

pub returns : goal.returns
returns g c =
    let t = c.args.run.now.task.now in
    let task : Task = task_in t in
    let l = c.args.ledger in
    let ps = c.parted-passes.result.0.items in
    let es = c.parted-passes.result.1.items in
    all-done task l (new_passes l 0 task.limits.workers) ps es c.close-board.result c.requires.begun.ledger c.requires.origins
    (back-of task l c.args.runners.items c.run_listed.new.runners.items ps es c.requires.begun c.run_listed.ensures
    c.parted-passes.ensures.passes c.parted-passes.ensures.ends)
    c.close-board.ensures
