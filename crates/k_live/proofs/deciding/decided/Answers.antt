use Rattle.std.proofs.Common.{length}
use Rattle.k_live.proofs.Counts.{search-on}
use Rattle.k_live.proofs.Telling.{some-of}
use Rattle.k_live.proofs.deciding.decided.Goals as goal

pub searched-requires : goal.searched-requires
searched-requires c = some-of c.args.w.now.c.now c.args.w.now.j c.args.w.now.k c.args.w.now.t.now c.requires

pub returns-in-Ok-clause-counted : goal.returns-in-Ok-clause-counted
returns-in-Ok-clause-counted c =
    search-on (length c.args.w.now.t.now.latches) c.args.meter.now c.searched.new.meter c.told.new.meter c.searched.ensures.counted c.told.ensures.counted
