-- Entries as code keeps them in a list.
use Rattle.std.specs.Prelude.{List, map}
use Rattle.std.specs.Arc.{arc_value}
use Rattle.fair_semantics.specs.Entries.{Entry, Numbered}
use Rattle.entry.specs.declared.list.Listed.{Listed}
use Rattle.entry.specs.declared.list.UsedEntry.{UsedEntry}

abbrev pub entry_of : Listed → Entry
entry_of l = record { kind = l.kind; clauses = l.set; uses = l.uses }

abbrev pub entries_of : List Listed → List Entry
entries_of list = map entry_of list

-- an entry that is used, with its number
abbrev pub numbered_of : UsedEntry → Numbered
numbered_of u = record { number = u.number; entry = entry_of (arc_value u.entry) }
