use Rattle.std.proofs.Common.{[], length, get_or, ap, arith, length-append}
use Rattle.fair_round.proofs.Steps.{own-in_range, fairness-in_range}
use Rattle.fair_round.proofs.walking.fair_literal.Goals as goal

pub returns-then-k-own-clause-range : goal.returns-then-k-own-clause-range
returns-then-k-own-clause-range c =
    own-in_range c.args.c.now c.args.j c.args.k c.property-own.result.now c.max-limits.ensures.limits c.requires.property c.property-own.ensures c.if-k-own.true

pub returns-clause-range : goal.returns-clause-range
returns-clause-range c =
    fairness-in_range c.args.c.now _ c.fairness.result.now c.max-limits.ensures.limits c.fairness.ensures (omega (arith, length-append (get_or c.args.c.now.justice c.args.j []) c.args.c.now.fairness, ap length c.property-own.ensures, ap length c.fairness.ensures, c.requires.inside))
