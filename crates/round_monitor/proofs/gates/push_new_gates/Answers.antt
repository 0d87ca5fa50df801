use Rattle.std.proofs.Common.{◌∙◌}
use Rattle.round_monitor.proofs.Numbering.{chain_fits}
use Rattle.round_monitor.proofs.Reading.{ends_fit}
use Rattle.round_monitor.proofs.gates.push_new_gates.Goals as goal

pub push_all-requires : goal.push_all-requires
push_all-requires c =
    chain_fits c.args.z c.ending.result c.as_slice.result.now c.ending.ensures (c.as_slice.ensures ∙ c.in_ok-all.ensures) c.requires.fits

pub push_next_seen-requires-clause-low : goal.push_next_seen-requires-clause-low
push_next_seen-requires-clause-low c =
    ends_fit c.args.z c.ending.result c.in_ok-ends.ends c.as_slice.result.now c.in_ok-ends.ensures.end c.ending.ensures (c.as_slice.ensures ∙ c.in_ok-all.ensures)
    c.requires.fits

pub push_counter_gates-requires-clause-low : goal.push_counter_gates-requires-clause-low
push_counter_gates-requires-clause-low c =
    ends_fit c.args.z c.ending.result c.in_ok-ends.ends c.as_slice.result.now c.in_ok-ends.ensures.end c.ending.ensures (c.as_slice.ensures ∙ c.in_ok-all.ensures)
    c.requires.fits
