use Rattle.std.proofs.Common.{◌≡◌, ℕ, List, ◌++◌, get_or, sym, ap, ap₂, ◌∙◌}
use Rattle.proof_semantics.specs.Lines.{line_of}
use Rattle.cert_tools.specs.declared.reaching.Node.{Node}
use Rattle.cert_tools.specs.TrimmingProofs.{node_in, nodes_of}
use Rattle.cert_tools.proofs.TrimmingLaws.{node_more}
use Rattle.cert_tools.proofs.shortening.nodes_of.Goals as goal

pub loop-line-init : goal.loop-line-init
unfolding nodes_of
loop-line-init c = c.new-nodes.ensures.items

pub loop-line-preserved : goal.loop-line-preserved
loop-line-preserved c =
    let lines : List (List ℕ) = c.args.lines.now in
    let line : List ℕ = c.line-item.result in
    let item : c.as_slice.result.now ≡ get_or lines c.loop-line.line-index line = c.as_slice.ensures ∙ c.line-item.is in
    c.in_ok-push_node.ensures
    ∙ ap₂ (λ (a b : List Node). a ++ b) c.loop-line.invariant (ap (λ l. node_in (line_of l)) item)
    ∙ sym (node_more lines c.loop-line.line-index line c.loop-line-test.true)
