-- Scaffolding of inner functions: what the command that `clap` met asks for, and what the words are read as.
use Rattle.std.specs.Prelude.{◌≡◌, ℕ, List, Option, Some, Result, Ok, Err}
use Rattle.clap.specs.Walk.{Row, Text}
use Rattle.command_lines.specs.declared.commands.Request.{Request as RequestInCode}
use Rattle.command_lines.specs.declared.commands.WordsEnd.{WordsEnd}
use Rattle.command_lines.specs.declared.commands.WordsEnd.TheVariants as ends
use Rattle.command_lines.specs.Commands.{Request, meant, Means}
use Rattle.command_lines.specs.Asking.{AsksFor, IsUsage}

-- a command was met, and asks for this
abbrev pub MetFor : Option (Text × List Row) → Request → Type 0
MetFor met asked = (name : Text) × (rows : List Row) × (met ≡ Some (name, rows)) × Means asked name rows

-- the words are read as what they are, or memory was refused
abbrev pub IsRead : List (List ℕ) → Result RequestInCode WordsEnd → Type 0
IsRead words (Ok told) = AsksFor words (meant told)
IsRead words (Err ends.Usage) = IsUsage words
IsRead words (Err ends.Memory) = Unit {0}
