use Rattle.round_answers.proofs.Full.{refutes_full_runs}
use Rattle.round_answers.proofs.laws.full_runs_are_refuted.Goals as goal

pub returns : goal.returns
returns c = refutes_full_runs c.args.t.now c.max-limits.ensures.checked c.good_lists_grow.ensures
