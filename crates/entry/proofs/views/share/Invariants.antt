use Rattle.std.proofs.Common.{◌≡◌, take}
use Rattle.entry.specs.CheckedEntries.{checked_in, viewed}
use Rattle.entry.proofs.views.share.Given as goal

abbrev pub invariant-loop-shared : goal.invariant-loop-shared
invariant-loop-shared l = record {
  checked : checked_in l.copy ≡ checked_in (take l.shared-index l.view);
  viewed : viewed l.copy ≡ viewed (take l.shared-index l.view);
}
