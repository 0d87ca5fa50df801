use Rattle.std.proofs.Common.{subst}
use Rattle.aig_semantics.specs.Literals.{variable_in}
use Rattle.aig_semantics.specs.Valuations.{HasOneValuation}
use Rattle.slice.proofs.Kept.{kept_model, kept_exact}
use Rattle.slice.proofs.slicing.named.Goals as goal

pub new-requires : goal.new-requires
new-requires c =
    kept_model c.args.m.now c.args.j (variable_in c.args.cone.now) c.requires.cone.cone c.circuit-c.ensures.model c.requires.able
    c.args.kept c.args.symbols c.requires.kept c.requires.symbols

pub returns-clause-exact : goal.returns-clause-exact
returns-clause-exact c =
    kept_exact c.args.m.now c.args.j (variable_in c.args.cone.now) c.requires.cone.cone c.circuit-c.ensures.model c.requires.able
    c.args.kept c.args.symbols c.new.result c.requires.kept c.requires.symbols
    (subst HasOneValuation c.circuit-c.ensures.circuit c.one_valuation.ensures) c.one_valuation-2.ensures c.new.ensures
