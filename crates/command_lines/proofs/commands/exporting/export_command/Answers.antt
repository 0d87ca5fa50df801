use Rattle.command_lines.proofs.commands.exporting.export_command.Goals as goal

pub returns : goal.returns
returns c =
    let made_1 = c.with_wanted_number-command.ensures _ c.for_model_and_answer-command.ensures in
    let made_2 = c.with_wanted_number-command-2.ensures _ made_1 in
    c.with_flag.ensures _ made_2
