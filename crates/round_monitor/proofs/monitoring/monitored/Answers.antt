use Rattle.std.proofs.Common.{sym, subst}
use Rattle.aig_semantics.specs.Circuits.{IsChecked, AreDefined}
use Rattle.circuit.specs.Keeping.{IsKeptOf}
use Rattle.circuit.specs.Sections.{circuit_of, used_by, AreInRange}
use Rattle.round_monitor.proofs.Kept.{fits, low_literals, parts_in_range, parts_checked, parts_defined}
use Rattle.round_monitor.proofs.monitoring.monitored.Goals as goal

pub kept_of-requires-clause-in_range : goal.kept_of-requires-clause-in_range
kept_of-requires-clause-in_range c =
    subst AreInRange (sym c.in_ok-parts.ensures) (parts_in_range c.args.c.now c.args.j c.args.k c.max-limits.ensures.checked c.max-limits.ensures.limits c.requires.able c.requires.some)

pub kept_of-requires-clause-checked : goal.kept_of-requires-clause-checked
kept_of-requires-clause-checked c =
    subst (λ p. IsChecked (circuit_of p)) (sym c.in_ok-parts.ensures)
    (parts_checked c.args.c.now c.args.j c.args.k c.max-limits.ensures.checked c.max-limits.ensures.limits c.requires.able c.requires.some)

pub kept_of-requires-clause-defined : goal.kept_of-requires-clause-defined
kept_of-requires-clause-defined c =
    subst (λ p. AreDefined (circuit_of p) (used_by p)) (sym c.in_ok-parts.ensures)
    (parts_defined c.args.c.now c.args.j c.args.k c.max-limits.ensures.checked c.max-limits.ensures.limits c.requires.able c.requires.some)

pub named-requires-clause-kept : goal.named-requires-clause-kept
named-requires-clause-kept c = subst (λ p. IsKeptOf p c.in_ok-kept.kept) c.in_ok-parts.ensures c.in_ok-kept.ensures

pub parts_of-requires-clause-property : goal.parts_of-requires-clause-property
parts_of-requires-clause-property c = c.requires.able.property

pub parts_of-requires-clause-fits : goal.parts_of-requires-clause-fits
parts_of-requires-clause-fits c = fits c.args.c.now c.args.j c.args.k c.args.z c.requires.sizes c.requires.able

pub parts_of-requires-clause-low : goal.parts_of-requires-clause-low
parts_of-requires-clause-low c = low_literals c.args.c.now c.args.j c.max-limits.ensures.limits c.requires.able.property
