use Rattle.std.proofs.Common.{◌≡◌, take}
use Rattle.cert_tools.specs.TrimmingEntries.{numbers_of}
use Rattle.cert_tools.proofs.uses.numbers_of.Given as goal

abbrev pub invariant-loop-u : goal.invariant-loop-u
invariant-loop-u l = l.numbers ≡ numbers_of (take l.u-index l.uses)
