use Rattle.entry.specs.CheckedEntries.{viewed}
use Rattle.ic3_loops.proofs.Broken.{any-end}
use Rattle.ic3_loops.proofs.ending.end_cube.Goals as goal

pub returns-in-Initial : goal.returns-in-Initial
returns-in-Initial c =
    any-end c.args.c.now (viewed c.args.view.now) c.args.start.now c.args.p.now c.new.result c.in-Initial.is c.new.ensures
