use Rattle.std.proofs.Common.{get_or}
use Rattle.ternary.proofs.Words.{value-reads_x, value-reads_one}
use Rattle.ternary.proofs.lanes.value_in.Goals as goal

pub returns-then-one-k-eq0 : goal.returns-then-one-k-eq0
returns-then-one-k-eq0 c = value-reads_x (get_or c.args.words 0 0) (get_or c.args.words 1 0) c.args.k c.if-possible-k-eq0.false c.if-one-k-eq0.true

pub returns-else-one-k-eq0 : goal.returns-else-one-k-eq0
returns-else-one-k-eq0 c = value-reads_one (get_or c.args.words 0 0) (get_or c.args.words 1 0) c.args.k c.if-possible-k-eq0.false c.if-one-k-eq0.false
