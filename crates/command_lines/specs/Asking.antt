-- What the words of the command line ask for.
use Rattle.std.specs.Prelude.{◌≡◌, ◌≢◌, ◌⊎◌, ℕ, List, [], Some, Result, Ok, Err}
use Rattle.clap.specs.Walk.{Row}
use Rattle.clap.specs.Simple.{subcommand_of}
use Rattle.clap.specs.Faults.{fault_of}
use Rattle.command_lines.specs.declared.commands.Request.{Request as RequestInCode}
use Rattle.command_lines.specs.declared.commands.WordsEnd.{WordsEnd}
use Rattle.command_lines.specs.declared.commands.WordsEnd.TheVariants.{Memory}
use Rattle.command_lines.specs.Commands.{Request, meant, fairlive, Means}

-- `clap` takes the words, as the command of this name with these values
pub record IsTaken (words : List (List ℕ)) (name : List ℕ) (rows : List Row) : Type 0 where
  pub faultless : fault_of fairlive words ≡ []
  pub command : subcommand_of fairlive words ≡ Some (name, rows)

-- the words ask for this
pub record AsksFor (words : List (List ℕ)) (asked : Request) : Type 0 where
  pub name : List ℕ
  pub rows : List Row
  pub taken : IsTaken words name rows
  pub means : Means asked name rows

-- `clap` takes the words as a command, and its values are no request of it
pub record AsksForNothing (words : List (List ℕ)) : Type 0 where
  pub name : List ℕ
  pub rows : List Row
  pub taken : IsTaken words name rows
  pub refused : (asked : Request) → Means asked name rows → ⊥

-- the words are no command: `clap` does not take them (so a request for help), for another cause than memory, or their
-- values are no request
abbrev pub IsUsage : List (List ℕ) → Type 0
IsUsage words = (fault_of fairlive words ≢ []) ⊎ AsksForNothing words

-- the words ask for something, or are no command
abbrev pub IsTakenOrUsage : List (List ℕ) → Type 0
IsTakenOrUsage words = IsUsage words ⊎ ((asked : Request) × AsksFor words asked)

-- the words are told to ask for this, unless memory was refused
abbrev pub IsTold : Request → Result RequestInCode WordsEnd → Type 0
IsTold asked (Ok told) = meant told ≡ asked
IsTold asked (Err end) = end ≡ Memory
