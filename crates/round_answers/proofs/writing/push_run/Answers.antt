use Rattle.round_answers.proofs.Adding.{run_added}
use Rattle.round_answers.proofs.writing.push_run.Goals as goal

pub returns : goal.returns
returns c =
    run_added c.args.run.now c.args.text.now.items c.push_word.new.text.items c.push_start.new.text.items c.push_inputs.new.text.items c.push_word-2.new.text.items
    c.in_ok-push_word.ensures c.in_ok-push_start.ensures c.in_ok-push_inputs.ensures c.in_ok-push_word-2.ensures
