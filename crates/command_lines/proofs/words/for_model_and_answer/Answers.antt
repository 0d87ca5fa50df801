use Rattle.command_lines.proofs.words.for_model_and_answer.Goals as goal

pub returns : goal.returns
returns c = c.with_wanted.ensures _ c.for_value.ensures
