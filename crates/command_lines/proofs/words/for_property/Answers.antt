use Rattle.command_lines.proofs.words.for_property.Goals as goal

pub returns : goal.returns
returns c = c.with_number_option.ensures _ c.for_value-command.ensures
