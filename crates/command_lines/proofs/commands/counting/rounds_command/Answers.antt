use Rattle.command_lines.proofs.commands.counting.rounds_command.Goals as goal

pub returns : goal.returns
returns c =
    let made_1 = c.with_wanted_number-command.ensures _ c.for_value-command.ensures in
    let made_2 = c.with_number_option-command.ensures _ made_1 in
    let made_3 = c.with_number_option-command-2.ensures _ made_2 in
    c.with_number_option.ensures _ made_3
