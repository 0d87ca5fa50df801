use Rattle.std.proofs.Common.{◌-◌, length}
use Rattle.cdcl_trail.specs.TracksOf.{IsLowering}
use Rattle.cdcl_trail.proofs.tracks.lower.Given as goal

abbrev pub invariant-levels : goal.invariant-levels
invariant-levels l = IsLowering l.fn.saved.items l.bound l.saved.items l.place

abbrev pub decreases-levels : goal.decreases-levels
decreases-levels l = length l.fn.saved.items - l.place
