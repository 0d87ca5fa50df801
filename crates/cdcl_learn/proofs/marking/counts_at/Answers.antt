use Rattle.std.proofs.Common.{sym, arith}
use Rattle.cdcl_learn.proofs.MarkLaws.{counts_in, counts_out}
use Rattle.cdcl_learn.proofs.marking.counts_at.Goals as goal

pub returns-then-start-place : goal.returns-then-start-place
returns-then-start-place c = sym (counts_in c.args.start c.args.place c.if-start-place.true)

pub returns-else-start-place : goal.returns-else-start-place
returns-else-start-place c = sym (counts_out c.args.start c.args.place (omega (arith, c.if-start-place.false)))
