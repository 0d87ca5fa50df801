use Rattle.std.proofs.Common.{rules, true, codes}
use Rattle.clap.specs.Simple.{App, new_app, on_top}
use Rattle.command_lines.specs.Solve.{solve_command}
use Rattle.command_lines.specs.Check.{check_command}
use Rattle.command_lines.specs.Gen.{gen_command}
use Rattle.command_lines.specs.Demo.{demo_command}
use Rattle.command_lines.specs.Wave.{wave_command}
use Rattle.command_lines.specs.Slice.{slice_command}
use Rattle.command_lines.specs.Convert.{convert_command}
use Rattle.command_lines.specs.Safety.{safety_command}
use Rattle.command_lines.specs.Rounds.{rounds_command}
use Rattle.command_lines.specs.Shortest.{shortest_command}
use Rattle.command_lines.specs.Trim.{trim_command}
use Rattle.command_lines.specs.Export.{export_command}
use Rattle.command_lines.proofs.commands.program.Goals as goal

-- the program without its commands
abbrev bare : App
bare = on_top (λ s. record s { subcommand_required = true; disable_help_subcommand = true }) (new_app (codes "fairlive"))

pub returns : goal.returns
returns c =
    let made_1 = c.attached-program.ensures bare solve_command (search rules) c.solve_command.ensures in
    let made_2 = c.attached-program-2.ensures _ check_command made_1 c.for_model_and_answer.ensures in
    let made_3 = c.attached-program-3.ensures _ gen_command made_2 c.gen_command.ensures in
    let made_4 = c.attached-program-4.ensures _ demo_command made_3 c.demo_command.ensures in
    let made_5 = c.attached-program-5.ensures _ wave_command made_4 c.wave_command.ensures in
    let made_6 = c.attached-program-6.ensures _ slice_command made_5 c.for_property.ensures in
    let made_7 = c.attached-program-7.ensures _ convert_command made_6 c.for_model_and_answer-2.ensures in
    let made_8 = c.attached-program-8.ensures _ safety_command made_7 c.for_property-2.ensures in
    let made_9 = c.attached-program-9.ensures _ rounds_command made_8 c.rounds_command.ensures in
    let made_10 = c.attached-program-10.ensures _ shortest_command made_9 c.shortest_command.ensures in
    let made_11 = c.attached-program-11.ensures _ trim_command made_10 c.for_model_and_answer-3.ensures in
    c.attached.ensures _ export_command made_11 c.export_command.ensures
