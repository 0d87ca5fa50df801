use Rattle.std.proofs.Common.{◌∙◌}
use Rattle.live_to_safe.proofs.Numbering.{chain_fits}
use Rattle.live_to_safe.proofs.gates.push_new_gates.Goals as goal

pub push_chain-requires : goal.push_chain-requires
push_chain-requires c =
    chain_fits c.args.z c.bad_gate.result c.as_slice.result.now c.bad_gate.ensures (c.as_slice.ensures ∙ c.in_ok-all.ensures) c.requires.fits
