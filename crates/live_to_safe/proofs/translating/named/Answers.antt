use Rattle.std.proofs.Common.{List, sym, ap, subst, ◌∙◌}
use Rattle.std.specs.Prelude.{None}
use Rattle.aiger_grammar.specs.declared.names.Symbol.{Symbol}
use Rattle.aiger_grammar.specs.Models.{IsModel}
use Rattle.aiger_names.specs.Kept.{joined}
use Rattle.live_to_safe.proofs.Kept.{kept_model, kept_exact}
use Rattle.live_to_safe.proofs.translating.named.Goals as goal

pub new-requires-2 : goal.new-requires-2
new-requires-2 c =
    subst (λ (s : List Symbol). IsModel (joined c.args.kept.circuit c.args.kept.outputs c.args.kept.bad (record { symbols = s; comment = None }))) (sym c.new.ensures)
    (kept_model c.args.c.now c.args.j c.max-limits.ensures.checked c.max-limits.ensures.limits c.requires.able c.args.kept c.requires.kept)

pub returns-clause-exact : goal.returns-clause-exact
returns-clause-exact c =
    kept_exact c.args.c.now c.args.j c.max-limits.ensures.checked c.max-limits.ensures.limits c.requires.able c.args.kept c.new-2.result c.requires.kept
    c.one_valuation.ensures c.one_valuation-2.ensures
    (c.new-2.ensures ∙ ap (λ (s : List Symbol). joined c.args.kept.circuit c.args.kept.outputs c.args.kept.bad (record { symbols = s; comment = None })) c.new.ensures)
