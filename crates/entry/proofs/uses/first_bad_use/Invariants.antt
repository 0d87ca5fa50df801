use Rattle.std.proofs.Common.{◌≡◌, ◌<◌, take, drop}
use Rattle.std.specs.List.{All, AllPairs}
use Rattle.entry.specs.Listing.{entries_of}
use Rattle.entry.specs.Faults.{bad_use_behind, first_bad_use}
use Rattle.entry.proofs.uses.first_bad_use.Given as goal

abbrev pub invariant-loop-i : goal.invariant-loop-i
invariant-loop-i l = record {
  rest : bad_use_behind l.user (entries_of l.list) l.least (take l.i l.uses) (drop l.i l.uses) ≡ first_bad_use l.user (entries_of l.list) l.uses;
  below : All (λ u. u.entry < l.least) (take l.i l.uses);
  ascend : AllPairs (λ u v. u.entry < v.entry) (take l.i l.uses);
}
