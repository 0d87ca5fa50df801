use Rattle.std.proofs.Common.{◌+◌, ◌∙◌, ap, subst, arith}
use Rattle.edge.proofs.Ends.{counts_on}
use Rattle.lasso_bmc.specs.declared.ends.Searched.{Searched}
use Rattle.lasso_bmc.specs.Searching.{IsSearched}
use Rattle.lasso_bmc.proofs.Telling.{fewer_too}
use Rattle.lasso_bmc.proofs.searching.searched.Goals as goal

pub deepen-requires-clause-none : goal.deepen-requires-clause-none
deepen-requires-clause-none c =
    fewer_too c.args.c.now c.args.j c.loop-last.last c.loop-last.d.positions c.loop-last.invariant.none (omega (arith, c.loop-last.invariant.positions))

pub loop-last-preserved : goal.loop-last-preserved
loop-last-preserved c =
    let is = c.in-Ok-NoneWithin.ensures in
    let none = subst (λ (s : Searched). IsSearched c.args.c.now c.args.j (c.loop-last.d.positions + 1) s) c.in-Ok-NoneWithin.field-0-is is.searched in
    record {
      grown = is.grown;
      positions = is.positions ∙ ap (λ n. n + 1) c.loop-last.invariant.positions;
      none = fewer_too c.args.c.now c.args.j (c.loop-last.d.positions + 1) (c.loop-last.last + 1) none (omega (arith, c.loop-last.invariant.positions));
      counted = counts_on c.args.meter.now c.loop-last.meter c.deepen.new.meter c.loop-last.invariant.counted is.counted;
    }

pub returns-clause-searched : goal.returns-clause-searched
returns-clause-searched c =
    fewer_too c.args.c.now c.args.j c.loop-last.last c.args.depth c.loop-last.invariant.none (omega (arith, c.loop-last-test.false))
