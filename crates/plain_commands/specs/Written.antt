-- Scaffolding of inner functions: a status that is written, and whether it says that a text was accepted.
use Rattle.std.specs.Prelude.{◌≡◌, ℕ, Bool, true, false, List, Result, Ok, Err}
use Rattle.plain_commands.specs.declared.status.Status.{Status}
use Rattle.plain_commands.specs.declared.status.Status.TheVariants as statuses
use Rattle.plain_commands.specs.declared.status.Done.TheVariants.{Printed}
use Rattle.plain_commands.specs.declared.texts.Ending.{Ending}

-- the status with this text, or want of memory
abbrev pub IsWritten : Result Ending Status → Status → List ℕ → Type 0
IsWritten (Ok ending) status text = (ending.status ≡ status) × (ending.text.items ≡ text)
IsWritten (Err other) status text = other ≡ statuses.Memory

-- something was done, and not printed
unfoldable pub accepts : Status → Bool
accepts (statuses.Done Printed) = false
accepts (statuses.Done done) = true
accepts _ = false
