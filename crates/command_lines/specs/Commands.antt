-- The commands, each of which has a file of its own: what the words of the command line may ask for. Here is a line for
-- each in every definition.
use Rattle.std.specs.Prelude.{◌≡◌, ℕ, List, [], ◌∷◌, Option, None, Some, option_map, codes, true}
use Rattle.clap.specs.Walk.{Row}
use Rattle.clap.specs.Simple.{App, new_app, on_top, with_subcommand}
use Rattle.command_lines.specs.declared.commands.Request.{Request as RequestInCode}
use Rattle.command_lines.specs.declared.commands.Request.TheVariants as code
use Rattle.command_lines.specs.declared.commands.solving.SolveRequest.{SolveRequest}
use Rattle.command_lines.specs.declared.commands.generating.GenRequest.{GenRequest}
use Rattle.command_lines.specs.declared.commands.demonstrating.DemoRequest.{DemoRequest}
use Rattle.command_lines.specs.declared.commands.counting.RoundsRequest.{RoundsRequest}
use Rattle.command_lines.specs.declared.commands.bounding.ShortestRequest.{ShortestRequest}
use Rattle.command_lines.specs.declared.commands.exporting.ExportRequest.{ExportRequest}
use Rattle.command_lines.specs.Solve.{solve_command, MeansSolve}
use Rattle.command_lines.specs.Check.{check_command, MeansCheck}
use Rattle.command_lines.specs.Gen.{gen_command, MeansGen}
use Rattle.command_lines.specs.Demo.{demo_command, MeansDemo}
use Rattle.command_lines.specs.Wave.{wave_command, MeansWave}
use Rattle.command_lines.specs.Slice.{slice_command, MeansSlice}
use Rattle.command_lines.specs.Convert.{convert_command, MeansConvert}
use Rattle.command_lines.specs.Safety.{safety_command, MeansSafety}
use Rattle.command_lines.specs.Rounds.{rounds_command, MeansRounds}
use Rattle.command_lines.specs.Shortest.{shortest_command, MeansShortest}
use Rattle.command_lines.specs.Trim.{trim_command, MeansTrim}
use Rattle.command_lines.specs.Export.{export_command, MeansExport}

-- what the words may ask for
pub data Request : Type 0 where
  -- decide a property, or all, of the model under the name, by a list that begins with the entries of the answer under another,
  -- where one is given
  Solve : (model : List ℕ) (request : SolveRequest) (resume : Option (List ℕ)) → Request
  -- check the answer under one name against the model under the other
  Check : (model : List ℕ) (answer : List ℕ) → Request
  -- write a generated model
  Gen : (request : GenRequest) → Request
  -- decide a property of a generated model, and print a summary
  Demo : (request : DemoRequest) → Request
  -- write the waves of the answer's lasso; of a sheet those of the lasso of this property
  Wave : (model : List ℕ) (answer : List ℕ) (property : ℕ) → Request
  -- write what of the model lies in the cone of a property
  Slice : (model : List ℕ) (property : ℕ) → Request
  -- write the answer in the current version
  Convert : (model : List ℕ) (answer : List ℕ) → Request
  -- write a property of the model as a model for checkers of safety
  Safety : (model : List ℕ) (property : ℕ) → Request
  -- decide whether some run has so many rounds of a property of the model
  Rounds : (model : List ℕ) (request : RoundsRequest) → Request
  -- print a shortest lasso of a property of the model, or that there is none of so many positions
  Shortest : (model : List ℕ) (request : ShortestRequest) → Request
  -- write the answer without what it does not need
  Trim : (model : List ℕ) (answer : List ℕ) → Request
  -- write the clauses of an obligation of the answer, or its proof, for other checkers
  Export : (model : List ℕ) (answer : List ℕ) (request : ExportRequest) → Request

-- a name, if there is one
abbrev pub name_in : Option (List ℕ) → List (List ℕ)
name_in None = []
name_in (Some name) = name ∷ []

-- the names whose texts are read for it, in this order: MODEL's is the first
abbrev pub names_in : Request → List (List ℕ)
names_in (Solve model request resume) = model ∷ name_in resume
names_in (Check model answer) = model ∷ answer ∷ []
names_in (Gen request) = []
names_in (Demo request) = []
names_in (Wave model answer property) = model ∷ answer ∷ []
names_in (Slice model property) = model ∷ []
names_in (Convert model answer) = model ∷ answer ∷ []
names_in (Safety model property) = model ∷ []
names_in (Rounds model request) = model ∷ []
names_in (Shortest model request) = model ∷ []
names_in (Trim model answer) = model ∷ answer ∷ []
names_in (Export model answer request) = model ∷ answer ∷ []

-- what a value in the code asks for
abbrev pub meant : RequestInCode → Request
meant (code.Solve model request resume) = Solve model.now request (option_map (λ name. name.now) resume)
meant (code.Check model answer) = Check model.now answer.now
meant (code.Gen request) = Gen request
meant (code.Demo request) = Demo request
meant (code.Wave model answer property) = Wave model.now answer.now property
meant (code.Slice model property) = Slice model.now property
meant (code.Convert model answer) = Convert model.now answer.now
meant (code.Safety model property) = Safety model.now property
meant (code.Rounds model request) = Rounds model.now request
meant (code.Shortest model request) = Shortest model.now request
meant (code.Trim model answer) = Trim model.now answer.now
meant (code.Export model answer request) = Export model.now answer.now request

-- what is written where the words are no command
abbrev pub usage_text : List ℕ
usage_text = codes "usage: fairlive solve MODEL [--property N] [--workers W] [--conflicts C] [--steps S] [--skeletons K] [--lassos N] [--depth D] [--all] [--resume ANSWER]\n       fairlive check MODEL ANSWER\n       fairlive gen KIND SEED SIZE [--binary]\n       fairlive demo SEED SIZE\n       fairlive wave MODEL ANSWER [--property N]\n       fairlive slice MODEL [--property N]\n       fairlive convert MODEL ANSWER\n       fairlive safety MODEL [--property N]\n       fairlive rounds MODEL K [--property N] [--conflicts C] [--steps S]\n       fairlive shortest MODEL [--property N] [--conflicts C] [--depth D]\n       fairlive trim MODEL ANSWER\n       fairlive export MODEL ANSWER ENTRY CLAUSE [--lrat]\n"

-- the program, which wants a command
abbrev pub fairlive : App
fairlive =
    with_subcommand (with_subcommand (with_subcommand (with_subcommand (with_subcommand
    (with_subcommand (with_subcommand (with_subcommand (with_subcommand (with_subcommand (with_subcommand (with_subcommand
    (on_top (λ s. record s { subcommand_required = true; disable_help_subcommand = true }) (new_app (codes "fairlive")))
    solve_command.top) check_command.top) gen_command.top) demo_command.top) wave_command.top)
    slice_command.top) convert_command.top) safety_command.top) rounds_command.top) shortest_command.top) trim_command.top) export_command.top

-- the command of this name, with the values of these rows, asks for this
abbrev pub Means : Request → List ℕ → List Row → Type 0
Means (Solve model request resume) name rows = (name ≡ codes "solve") × MeansSolve rows model request resume
Means (Check model answer) name rows = (name ≡ codes "check") × MeansCheck rows model answer
Means (Gen request) name rows = (name ≡ codes "gen") × MeansGen rows request
Means (Demo request) name rows = (name ≡ codes "demo") × MeansDemo rows request
Means (Wave model answer property) name rows = (name ≡ codes "wave") × MeansWave rows model answer property
Means (Slice model property) name rows = (name ≡ codes "slice") × MeansSlice rows model property
Means (Convert model answer) name rows = (name ≡ codes "convert") × MeansConvert rows model answer
Means (Safety model property) name rows = (name ≡ codes "safety") × MeansSafety rows model property
Means (Rounds model request) name rows = (name ≡ codes "rounds") × MeansRounds rows model request
Means (Shortest model request) name rows = (name ≡ codes "shortest") × MeansShortest rows model request
Means (Trim model answer) name rows = (name ≡ codes "trim") × MeansTrim rows model answer
Means (Export model answer request) name rows = (name ≡ codes "export") × MeansExport rows model answer request
