use Rattle.command_lines.proofs.commands.solving.solve_command.Goals as goal

pub returns : goal.returns
returns c =
    let made_1 = c.with_number_option-command.ensures _ c.for_property-command.ensures in
    let made_2 = c.with_number_option-command-2.ensures _ made_1 in
    let made_3 = c.with_number_option-command-3.ensures _ made_2 in
    let made_4 = c.with_number_option-command-4.ensures _ made_3 in
    let made_5 = c.with_number_option-command-5.ensures _ made_4 in
    let made_6 = c.with_number_option-command-6.ensures _ made_5 in
    let made_7 = c.with_flag-command.ensures _ made_6 in
    c.with_text_option.ensures _ made_7
