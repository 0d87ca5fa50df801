use Rattle.std.proofs.Common.{sym, ◌∙◌}
use Rattle.ternary.proofs.Writing.{with_values3_read, with_values3_end}
use Rattle.ternary.proofs.simulating.put_inputs.Goals as goal

pub loop-k-preserved : goal.loop-k-preserved
loop-k-preserved g c =
    sym (with_values3_read c.args.variables.now c.args.values.now c.loop-k.out c.loop-k.k 0 c.index-values-k.result c.loop-k-test.true c.requires.fit c.index-values-k.is)
    ∙ c.loop-k.invariant

pub returns : goal.returns
returns g c =
    sym (with_values3_end c.args.variables.now _ c.loop-k.out c.loop-k.k c.loop-k-test.false)
    ∙ c.loop-k.invariant
