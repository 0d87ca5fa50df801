-- What code answers of entries with their proofs.
use Rattle.std.specs.Prelude.{Option, Some, None, Result, Ok, Err}
use Rattle.fair_semantics.specs.Entries.{Entry}
use Rattle.entry.specs.declared.entries.Entry.{Entry as WithProofs}
use Rattle.entry.specs.declared.faults.EntryFault.{EntryFault}

-- the entry without its proofs
abbrev pub said : WithProofs → Entry
said e = record { kind = e.kind; clauses = e.set; uses = e.uses }

-- a first fault is an error, and none is Ok
abbrev pub verdict : Option EntryFault → Result (Unit {0}) EntryFault
verdict None = Ok tt
verdict (Some fault) = Err fault
