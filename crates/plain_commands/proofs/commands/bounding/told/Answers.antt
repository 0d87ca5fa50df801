use Rattle.std.proofs.Common.{subst}
use Rattle.lasso_bmc.specs.declared.ends.Searched.{Searched}
use Rattle.lasso_bmc.specs.Searching.{IsSearched}
use Rattle.plain_commands.proofs.Bounded.{none_is_said}
use Rattle.plain_commands.proofs.commands.bounding.told.Goals as goal

pub printed-requires-clause-shortest : goal.printed-requires-clause-shortest
printed-requires-clause-shortest c =
    (subst (λ (found : Searched). IsSearched c.args.circuit.now c.args.request.now.property c.args.request.now.depth found) c.in-Found.is c.requires.searched).0

pub printed-requires-clause-within : goal.printed-requires-clause-within
printed-requires-clause-within c =
    (subst (λ (found : Searched). IsSearched c.args.circuit.now c.args.request.now.property c.args.request.now.depth found) c.in-Found.is c.requires.searched).1

pub returns-in-NoneWithin-clause-found : goal.returns-in-NoneWithin-clause-found
returns-in-NoneWithin-clause-found c =
    none_is_said c.args.circuit.now c.args.request.now c.with_text.result c.requires.property
    (subst (λ (found : Searched). IsSearched c.args.circuit.now c.args.request.now.property c.args.request.now.depth found) c.in-NoneWithin.is c.requires.searched)
    c.with_text.ensures.text
