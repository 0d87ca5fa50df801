use Rattle.std.proofs.Common.{◌≡◌, take}
use Rattle.cert_tools.specs.TrimmingEntries.{at_places}
use Rattle.cert_tools.proofs.uses.renumbered.Given as goal

abbrev pub invariant-loop-u : goal.invariant-loop-u
invariant-loop-u l = l.renumbered ≡ at_places l.places (take l.u-index l.uses)
