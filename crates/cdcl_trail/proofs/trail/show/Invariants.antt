use Rattle.std.proofs.Common.{◌≡◌, ◌-◌, length, vec_capacity}
use Rattle.cdcl_trail.specs.Renaming.{IsShowing}
use Rattle.cdcl_trail.proofs.trail.show.Given as goal

abbrev pub invariant-places : goal.invariant-places
invariant-places l = record {
  showing : IsShowing l.names l.literals l.shown.items l.place;
  room : vec_capacity l.shown ≡ vec_capacity l.fn.shown;
}

abbrev pub decreases-places : goal.decreases-places
decreases-places l = length l.literals - l.place
