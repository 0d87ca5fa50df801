-- What a `Checked` keeps (scaffolding).
use Rattle.std.specs.Prelude.{map}
use Rattle.std.specs.Arc.{arc_value}
use Rattle.entry.specs.declared.checked.Checked.TheInside.{Inside}
use Rattle.entry.specs.Listing.{entry_of, numbered_of}
use Rattle.entry.specs.CheckedEntries.{CheckedEntry, HoldsWhereUsesStand}

abbrev pub seen_as : Inside → CheckedEntry
seen_as s = record {
  circuit = arc_value s.circuit;
  entry = entry_of (arc_value s.entry);
  proofs = s.proofs;
  used = map numbered_of s.used;
  origin = s.origin;
  seen = s.seen;
}

abbrev pub Holds : Inside → Type 0
Holds s = HoldsWhereUsesStand (seen_as s)
