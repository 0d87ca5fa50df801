use Rattle.std.proofs.Common.{arith}
use Rattle.fair_workers.specs.BoardWorkers.{task_in}
use Rattle.fair_workers.proofs.Threaded.{begun-size, begun-for, may-run-all}
use Rattle.fair_workers.proofs.threads.begun.Goals as goal

pub runners_of-requires-clause-room : goal.runners_of-requires-clause-room
runners_of-requires-clause-room c =
    let size = begun-size (task_in c.args.task.now) c.in_ok-made.made.0 c.in_ok-made.made.1.items c.in_ok-made.ensures in
    omega (arith, size, c.in_ok-room.ensures.capacity, c.in_ok-made.made.1.ok.0)

pub returns-clause-begun : goal.returns-clause-begun
returns-clause-begun c =
    begun-for (task_in c.args.task.now) c.in_ok-made.made.0 c.in_ok-made.made.1.items c.runners_of.result.items
    c.requires.limits c.requires.one c.requires.served c.in_ok-made.ensures c.runners_of.ensures

pub returns-clause-ready : goal.returns-clause-ready
returns-clause-ready c =
    may-run-all (task_in c.args.task.now) c.in_ok-made.made.0 c.runners_of.result.items
    (begun-for (task_in c.args.task.now) c.in_ok-made.made.0 c.in_ok-made.made.1.items c.runners_of.result.items
    c.requires.limits c.requires.one c.requires.served c.in_ok-made.ensures c.runners_of.ensures)
