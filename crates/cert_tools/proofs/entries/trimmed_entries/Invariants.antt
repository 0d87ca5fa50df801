use Rattle.std.proofs.Common.{List, [], length, take}
use Rattle.std.specs.List.{AllZip}
use Rattle.aig_semantics.specs.Circuits.{Circuit}
use Rattle.fair_semantics.specs.Entries.{Entry}
use Rattle.certificate.specs.Certificates.{AreProvedBehind}
use Rattle.cert_tools.specs.Trimmed.{Numbered, IsTrimmedEntry}
use Rattle.cert_tools.specs.TrimmingEntries.{needed_entries, ArePlaces}
use Rattle.cert_tools.proofs.entries.trimmed_entries.Given as goal

abbrev pub invariant-loop-k : goal.invariant-loop-k
invariant-loop-k l =
    (c : Circuit) (all : List Entry) (among : List Numbered) → AreProvedBehind c [] l.entries all → ArePlaces among (length l.entries) l.needed.places.items
    → AllZip (IsTrimmedEntry c all among) (needed_entries l.needed.numbers (take l.k l.entries)) l.kept
