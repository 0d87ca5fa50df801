use Rattle.std.proofs.Common.{◌≡◌, List, [], take}
use Rattle.fair_semantics.specs.Entries.{Entry}
use Rattle.entry.specs.Listing.{entries_of}
use Rattle.certificate.specs.Certificates.{AreProvedBehind}
use Rattle.cert_tools.proofs.listing.listed.Given as goal

abbrev pub invariant-loop-e : goal.invariant-loop-e
invariant-loop-e l = (all : List Entry) → AreProvedBehind l.c [] l.entries all → entries_of l.list.items ≡ take l.e-index all
