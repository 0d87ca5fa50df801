-- What is so of any command: a line for each in `memory_solves` and `of_command`.
use Rattle.std.specs.Prelude.{Option}
use Rattle.std.proofs.Common.{◌≡◌, inr, Bool, false, List, ℕ, sym, subst}
use Rattle.edge.specs.Writes.{Writes}
use Rattle.given_entries.specs.Beginning.{told_of}
use Rattle.plain_commands.specs.declared.status.Status.{Status}
use Rattle.plain_commands.specs.declared.status.Status.TheVariants as statuses
use Rattle.plain_commands.specs.Convert.{IsConversion}
use Rattle.command_lines.specs.Commands.{Request, Solve, Check, Gen, Demo, Wave, Slice, Convert, Safety, Rounds, Shortest, Trim, Export}
use Rattle.plain_commands.specs.Trim.{IsTrimming}
use Rattle.fair_top.specs.Commands.{CommandGives}
use Rattle.fair_top.specs.Solved.{SolvesAsked}
use Rattle.plain_commands.specs.Answering.{HasWritten}
use Rattle.fair_top.proofs.Sinks.{of_check, of_solve, of_demo, of_rounds}
use Rattle.fair_top.proofs.Dumped.{of_wave}
use Rattle.plain_commands.proofs.Remaking.{of_remade}
use Rattle.plain_commands.proofs.Translated.{of_safety}
use Rattle.plain_commands.proofs.Sliced.{of_slice}
use Rattle.plain_commands.proofs.Bounded.{of_shortest}
use Rattle.plain_commands.proofs.Exported.{of_export}

-- ---- where memory is refused

pub memory_solves : (held : List ℕ → Option (List ℕ)) (asked : Request) (result : Status) → result ≡ statuses.Memory → SolvesAsked held asked result
memory_solves held (Solve model request resume) result e = λ given. inr e
memory_solves held (Check model answer) result e = tt
memory_solves held (Gen request) result e = tt
memory_solves held (Demo request) result e = tt
memory_solves held (Wave model answer property) result e = tt
memory_solves held (Slice model property) result e = tt
memory_solves held (Convert model answer) result e = tt
memory_solves held (Safety model property) result e = tt
memory_solves held (Rounds model request) result e = tt
memory_solves held (Shortest model request) result e = tt
memory_solves held (Trim model answer) result e = tt
memory_solves held (Export model answer request) result e = tt

-- ---- what a sink saw

pub of_command : {Sink : Type 0} (Write : Sink → Bool → Sink → Type 0) (held : List ℕ → Option (List ℕ)) (asked : Request)
    (status : Status) (text : List ℕ) (old new : Sink) → CommandGives held asked status text → Writes Write false old new → HasWritten Write status old new
of_command Write held (Solve model request resume) status text old new gives writes =
    of_solve Write (held model) (told_of held resume) request status text old new gives writes
of_command Write held (Check model answer) status text old new gives writes =
    of_check Write (held model) (held answer) status old new gives.0 writes
of_command Write held (Gen request) status text old new gives writes =
    subst (λ (s : Status). HasWritten Write s old new) (sym gives.0) writes
of_command Write held (Demo request) status text old new gives writes =
    of_demo Write request status text old new gives writes
of_command Write held (Wave model answer property) status text old new gives writes =
    of_wave Write (held model) (held answer) property status text old new gives writes
of_command Write held (Slice model property) status text old new gives writes =
    of_slice Write (held model) property status text old new gives writes
of_command Write held (Convert model answer) status text old new gives writes =
    of_remade Write IsConversion (held model) (held answer) status text old new gives writes
of_command Write held (Safety model property) status text old new gives writes =
    of_safety Write (held model) property status text old new gives writes
of_command Write held (Rounds model request) status text old new gives writes =
    of_rounds Write (held model) request status text old new gives writes
of_command Write held (Shortest model request) status text old new gives writes =
    of_shortest Write (held model) request status text old new gives writes
of_command Write held (Trim model answer) status text old new gives writes =
    of_remade Write IsTrimming (held model) (held answer) status text old new gives writes
of_command Write held (Export model answer request) status text old new gives writes =
    of_export Write request (held model) (held answer) status text old new gives writes
