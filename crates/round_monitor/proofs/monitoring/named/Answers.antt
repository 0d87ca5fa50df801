use Rattle.std.proofs.Common.{List, sym, ap, subst, ◌∙◌}
use Rattle.std.specs.Prelude.{None}
use Rattle.aiger_grammar.specs.declared.names.Symbol.{Symbol}
use Rattle.aiger_grammar.specs.Models.{IsModel}
use Rattle.aiger_names.specs.Kept.{joined}
use Rattle.round_monitor.proofs.Kept.{kept_model, kept_watches, kept_exact}
use Rattle.round_monitor.proofs.monitoring.named.Goals as goal

pub new-requires-2 : goal.new-requires-2
new-requires-2 c =
    subst (λ (s : List Symbol). IsModel (joined c.args.kept.circuit c.args.kept.outputs c.args.kept.bad (record { symbols = s; comment = None }))) (sym c.new.ensures)
    (kept_model c.args.c.now c.args.j c.args.k c.max-limits.ensures.checked c.max-limits.ensures.limits c.requires.able c.requires.some c.args.kept c.requires.kept)

pub returns-clause-watches : goal.returns-clause-watches
returns-clause-watches c =
    kept_watches c.args.c.now c.args.j c.args.k c.max-limits.ensures.checked c.max-limits.ensures.limits c.requires.able c.requires.some c.args.kept c.new-2.result c.requires.kept
    c.one_valuation.ensures c.one_valuation-2.ensures
    (c.new-2.ensures ∙ ap (λ (s : List Symbol). joined c.args.kept.circuit c.args.kept.outputs c.args.kept.bad (record { symbols = s; comment = None })) c.new.ensures)

pub returns-clause-exact : goal.returns-clause-exact
returns-clause-exact c =
    kept_exact c.args.c.now c.args.j c.args.k c.max-limits.ensures.checked c.max-limits.ensures.limits c.requires.able c.requires.some c.args.kept c.new-2.result c.requires.kept
    c.one_valuation.ensures c.one_valuation-2.ensures
    (c.new-2.ensures ∙ ap (λ (s : List Symbol). joined c.args.kept.circuit c.args.kept.outputs c.args.kept.bad (record { symbols = s; comment = None })) c.new.ensures)
