use Rattle.command_lines.proofs.commands.generating.gen_command.Goals as goal

pub returns : goal.returns
returns c =
    let made_1 = c.with_wanted_number-command.ensures _ c.for_value-command.ensures in
    let made_2 = c.with_wanted_number-command-2.ensures _ made_1 in
    c.with_flag.ensures _ made_2
