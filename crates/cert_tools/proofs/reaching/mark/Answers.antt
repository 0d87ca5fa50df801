use Rattle.std.proofs.Common.{◌≡◌, ◌-◌, List, length, drop, subst, arith}
use Rattle.cert_tools.specs.declared.reaching.Node.{Node}
use Rattle.cert_tools.specs.Reaching.{Follows, IsMarked}
use Rattle.cert_tools.proofs.ReachedLaws.{marked_more}
use Rattle.cert_tools.proofs.reaching.mark.Goals as goal

pub loop-k-preserved : goal.loop-k-preserved
loop-k-preserved c =
    let nodes : List Node = c.args.nodes.now in
    let node : Node = c.index-nodes-nodes.result in
    λ from start. marked_more nodes from c.requires.0 c.loop-k.k node c.loop-k.numbers c.follow.new.numbers c.requires.1 c.loop-k-test.true (c.loop-k.invariant from start)
    (subst (λ n. Follows c.loop-k.numbers n c.follow.new.numbers) c.index-nodes-nodes.is c.in_ok-follow.ensures)

pub returns : goal.returns
returns c =
    let none : length c.args.nodes.now - c.loop-k.k ≡ 0 = omega (arith, c.loop-k-test.false) in
    λ from start. subst (λ n. IsMarked c.args.nodes.now from c.loop-k.numbers (drop n c.args.nodes.now)) none (c.loop-k.invariant from start)
