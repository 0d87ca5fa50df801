-- The commands, each of which has a file of its own: what a run that asks for one gives. Here is a line for each in every
-- definition.
use Rattle.std.specs.Prelude.{ℕ, List, Option}
use Rattle.sheet_answers.specs.declared.ends.Judged.{Judged}
use Rattle.command_lines.specs.Commands.{Request, Solve, Check, Gen, Demo, Wave, Slice, Convert, Safety, Rounds, Shortest, Trim, Export}
use Rattle.given_entries.specs.Beginning.{told_of}
use Rattle.plain_commands.specs.declared.status.Status.{Status}
use Rattle.fair_top.specs.Solve.{GivesSolve, DecidesSolve, ShownBySolve}
use Rattle.plain_commands.specs.Check.{GivesCheck, DecidesCheck, ShownByCheck}
use Rattle.plain_commands.specs.Gen.{GivesGen, DecidesGen}
use Rattle.fair_top.specs.Demo.{GivesDemo}
use Rattle.fair_top.specs.Wave.{GivesWave, DecidesWave}
use Rattle.plain_commands.specs.Slice.{GivesSlice, DecidesSlice}
use Rattle.plain_commands.specs.Remade.{DecidesRemade}
use Rattle.plain_commands.specs.Convert.{GivesConvert}
use Rattle.plain_commands.specs.Safety.{GivesSafety, DecidesSafety}
use Rattle.plain_commands.specs.Rounds.{GivesRounds, DecidesRounds, ShownByRounds}
use Rattle.plain_commands.specs.Shortest.{GivesShortest, DecidesShortest, ShownByShortest}
use Rattle.plain_commands.specs.Trim.{GivesTrim}
use Rattle.plain_commands.specs.Export.{GivesExport, DecidesExport}

-- What is so of the texts that the shelf tells where a run that asks for this ends with this status, and writes this text.
abbrev pub CommandGives : (List ℕ → Option (List ℕ)) → Request → Status → List ℕ → Type 0
CommandGives held (Solve model request resume) status text = GivesSolve (held model) (told_of held resume) request status text
CommandGives held (Check model answer) status text = GivesCheck (held model) (held answer) status text
CommandGives held (Gen request) status text = GivesGen request status text
CommandGives held (Demo request) status text = GivesDemo request status text
CommandGives held (Wave model answer property) status text = GivesWave (held model) (held answer) property status text
CommandGives held (Slice model property) status text = GivesSlice (held model) property status text
CommandGives held (Convert model answer) status text = GivesConvert (held model) (held answer) status text
CommandGives held (Safety model property) status text = GivesSafety (held model) property status text
CommandGives held (Rounds model request) status text = GivesRounds (held model) request status text
CommandGives held (Shortest model request) status text = GivesShortest (held model) request status text
CommandGives held (Trim model answer) status text = GivesTrim (held model) (held answer) status text
CommandGives held (Export model answer request) status text = GivesExport (held model) (held answer) request status text

-- the status is the only right one, by what is asked for and by the texts that the shelf tells; of `demo` none is
abbrev pub Decides : (List ℕ → Option (List ℕ)) → Request → Status → Type 0
Decides held (Solve model request resume) status = DecidesSolve (held model) (told_of held resume) request status
Decides held (Check model answer) status = DecidesCheck (held model) (held answer) status
Decides held (Gen request) status = DecidesGen request status
Decides held (Demo request) status = ⊥
Decides held (Wave model answer property) status = DecidesWave (held model) (held answer) property status
Decides held (Slice model property) status = DecidesSlice (held model) property status
Decides held (Convert model answer) status = DecidesRemade (held model) (held answer) status
Decides held (Safety model property) status = DecidesSafety (held model) property status
Decides held (Rounds model request) status = DecidesRounds (held model) request status
Decides held (Shortest model request) status = DecidesShortest (held model) request status
Decides held (Trim model answer) status = DecidesRemade (held model) (held answer) status
Decides held (Export model answer request) status = DecidesExport (held model) (held answer) request status

-- what is so of the texts on the shelf where a run that asks for this accepts or prints an answer, a text about rounds or a
-- sheet; `gen`, `demo`, `wave`, `slice`, `convert`, `safety`, `trim` and `export` never do
abbrev pub ShownBy : (List ℕ → Option (List ℕ)) → Request → Judged → Type 0
ShownBy held (Solve model request resume) accepted = ShownBySolve (held model) accepted
ShownBy held (Check model answer) accepted = ShownByCheck (held model) accepted
ShownBy held (Gen request) accepted = ⊥
ShownBy held (Demo request) accepted = ⊥
ShownBy held (Wave model answer property) accepted = ⊥
ShownBy held (Slice model property) accepted = ⊥
ShownBy held (Convert model answer) accepted = ⊥
ShownBy held (Safety model property) accepted = ⊥
ShownBy held (Rounds model request) accepted = ShownByRounds (held model) accepted
ShownBy held (Shortest model request) accepted = ShownByShortest (held model) accepted
ShownBy held (Trim model answer) accepted = ⊥
ShownBy held (Export model answer request) accepted = ⊥
