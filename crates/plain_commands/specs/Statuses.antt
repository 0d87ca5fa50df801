-- What a failed read becomes, and the statuses of runs that end without a text.
use Rattle.std.specs.Prelude.{Bool, true, false, Result, Ok, Err}
use Rattle.plain_commands.specs.declared.texts.Ending.{Ending}
use Rattle.edge.specs.declared.reading.ReadEnd.{ReadEnd}
use Rattle.edge.specs.declared.reading.ReadEnd.TheVariants as reads
use Rattle.plain_commands.specs.declared.status.Status.{Status}
use Rattle.plain_commands.specs.declared.status.Status.TheVariants as statuses

abbrev pub status_of_read : ReadEnd → Status
status_of_read reads.Failed = statuses.ReadFault
status_of_read reads.Memory = statuses.Memory

-- the status says that a read failed
abbrev pub is_read_fault : Status → Bool
is_read_fault statuses.ReadFault = true
is_read_fault _ = false

-- a run ends with this status before it writes
abbrev pub ends_silently : Status → Bool
ends_silently statuses.ReadFault = true
ends_silently statuses.Memory = true
ends_silently _ = false

-- the status with which a run ends
abbrev pub status_in : Result Ending Status → Status
status_in (Ok ending) = ending.status
status_in (Err status) = status

-- the call ended with a failed read
abbrev pub has_read_fault : {T : Type 0} → Result T Status → Bool
has_read_fault (Ok read) = false
has_read_fault (Err status) = is_read_fault status
