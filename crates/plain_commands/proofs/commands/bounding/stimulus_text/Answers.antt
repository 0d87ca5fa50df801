use Rattle.std.proofs.Common.{◌≡◌, ◌<◌, ◌^◌, length, rules, arith}
use Rattle.plain_commands.proofs.Bounded.{good_shortest}
use Rattle.plain_commands.proofs.commands.bounding.stimulus_text.Goals as goal

pub shortest_prefix-requires : goal.shortest_prefix-requires
shortest_prefix-requires c = c.requires.shortest.fair

pub returns : goal.returns
returns c =
    let short = c.in_ok-short.short in
    let small : c.args.request.now.property < 2 ^ 32 = search rules in
    let counted : length short.inputs ≡ c.len-positions.result = search rules in
    let fewer = c.in_ok-short.ensures.shortest.has.inside in
    good_shortest c.args.circuit.now c.args.request.now (record { latches = short.start; inputs = short.inputs }) c.args.lasso c.len-positions.result short.from c.in_ok-text.text.items
    c.written_stimuli_are_good.ensures c.good_answers_are_true.ensures (omega (arith, small))
    counted (search rules) c.in_ok-text.ensures.text (omega (arith, c.in_ok-text.text.ok, c.in_ok-text.text.small))
    c.requires.shortest c.requires.within (omega (arith, counted, fewer))
