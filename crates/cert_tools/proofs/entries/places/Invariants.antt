use Rattle.cert_tools.proofs.EntryPlaces.{AreFirstPlaces}
use Rattle.cert_tools.proofs.entries.places.Given as goal

abbrev pub invariant-loop-k : goal.invariant-loop-k
invariant-loop-k l = AreFirstPlaces l.numbers l.entries l.k l.places.items l.place
