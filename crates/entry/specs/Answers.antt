-- How code answers: by what is judged of an entry, or by want of memory, which says nothing.
use Rattle.std.specs.Prelude.{◌≡◌, Result, Ok, Err}
use Rattle.entry.specs.declared.faults.EntryFault.{EntryFault}
use Rattle.entry.specs.declared.faults.EntryEnd.{EntryEnd}
use Rattle.entry.specs.declared.faults.EntryEnd.TheVariants.{Fault, Memory}

-- an answer of Ok is what is judged, and so is a fault
abbrev pub Tells : {T : Type 0} → Result T EntryEnd → Result T EntryFault → Type 0
Tells (Ok x) judged = judged ≡ Ok x
Tells (Err (Fault fault)) judged = judged ≡ Err fault
Tells (Err Memory) judged = Unit {0}
