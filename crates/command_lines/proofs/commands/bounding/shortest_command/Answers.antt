use Rattle.command_lines.proofs.commands.bounding.shortest_command.Goals as goal

pub returns : goal.returns
returns c =
    let made_1 = c.with_number_option-command.ensures _ c.for_property-command.ensures in
    c.with_number_option.ensures _ made_1
