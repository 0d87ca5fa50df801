use Rattle.std.proofs.Common.{ℕ, List, [], ◌∷◌, ◌++◌, sym, ap, ap₂, ◌∙◌}
use Rattle.certificate_texts.specs.declared.certificates.Written.{Written}
use Rattle.cert_tools.specs.declared.reaching.Node.{Node}
use Rattle.cert_tools.specs.TrimmingEntries.{entry_node}
use Rattle.cert_tools.proofs.EntryPlaces.{entry_more}
use Rattle.cert_tools.proofs.entries.entry_nodes.Goals as goal

pub loop-k-preserved : goal.loop-k-preserved
loop-k-preserved c =
    let k : ℕ = c.loop-k.k in
    c.in_ok-push_node.ensures
    ∙ ap₂ (λ (a b : List Node). a ++ b) c.loop-k.invariant (ap (λ (e : Written). entry_node k e ∷ []) c.index-entries-k.is)
    ∙ sym (entry_more c.args.entries.now k c.index-entries-k.result c.loop-k-test.true)
