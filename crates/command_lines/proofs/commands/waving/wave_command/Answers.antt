use Rattle.command_lines.proofs.commands.waving.wave_command.Goals as goal

pub returns : goal.returns
returns c = c.with_number_option.ensures _ c.for_model_and_answer-command.ensures
