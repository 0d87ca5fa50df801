use Rattle.cert_tools.proofs.ReachedLaws.{marked_start, marked_all}
use Rattle.cert_tools.proofs.reaching.reached.Goals as goal

pub returns : goal.returns
returns c =
    marked_all c.args.nodes.now c.args.from.now c.mark.new.numbers
    (c.in_ok-mark.ensures c.args.from.now (marked_start c.args.nodes.now c.args.from.now c.none-numbers.result c.put_all.new.numbers c.none-numbers.ensures c.in_ok-put_all.ensures))
