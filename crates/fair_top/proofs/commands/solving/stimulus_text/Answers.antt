use Rattle.std.proofs.Common.{◌<◌, ◌^◌, rules, arith}
use Rattle.fair_top.proofs.Decided.{good_stimulus, text_of_prefix}
use Rattle.fair_top.proofs.commands.solving.stimulus_text.Goals as goal

pub returns-clause-printed : goal.returns-clause-printed
returns-clause-printed c = λ most.
    let short = c.in_ok-short.short in
    let small : c.args.request.now.property < 2 ^ 32 = search rules in
    good_stimulus c.args.circuit.now c.args.request.now most (record { latches = short.start; inputs = short.inputs }) c.len-positions.result short.from c.in_ok-text.text.items
    c.written_stimuli_are_good.ensures c.good_answers_are_true.ensures (omega (arith, small))
    (search rules) (search rules) c.in_ok-text.ensures.text (omega (arith, c.in_ok-text.text.ok, c.in_ok-text.text.small))

pub returns-clause-text : goal.returns-clause-text
returns-clause-text c =
    let short = c.in_ok-short.short in
    text_of_prefix c.args.circuit.now c.args.request.now.property c.args.lasso.now short c.in_ok-text.text.items
    (search rules) (search rules) (search rules) c.in_ok-text.ensures.text
