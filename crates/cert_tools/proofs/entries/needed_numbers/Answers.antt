use Rattle.std.proofs.Common.{◌≡◌, List, sym, ap, ◌∙◌, subst}
use Rattle.cert_tools.specs.declared.reaching.Node.{Node}
use Rattle.cert_tools.specs.Reaching.{LeadDown}
use Rattle.cert_tools.specs.TrimmingEntries.{entry_nodes}
use Rattle.cert_tools.proofs.EntryNodes.{entries_down}
use Rattle.cert_tools.proofs.entries.needed_numbers.Goals as goal

pub reached-requires : goal.reached-requires
reached-requires c =
    let nodes : c.as_slice-3.result.now ≡ entry_nodes 0 c.args.certificate.now.entries = c.as_slice-3.ensures.value ∙ c.in_ok-nodes.ensures ∙ ap (entry_nodes 0) c.as_slice.ensures in
    (0, subst (λ (ns : List Node). LeadDown 0 ns) (sym nodes) (entries_down c.requires.0 c.args.certificate.now.entries c.requires.1 c.requires.2))
