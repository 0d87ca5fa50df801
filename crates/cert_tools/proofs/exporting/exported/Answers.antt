use Rattle.cert_tools.proofs.TrimmedLaws.{good_of}
use Rattle.cert_tools.proofs.ItemLaws.{holds_ends, lasso_ends, property_known}
use Rattle.cert_tools.proofs.exporting.exported.Goals as goal

pub returns-in-Lasso : goal.returns-in-Lasso
returns-in-Lasso c =
    lasso_ends c.args.loaded.now c.in-Lasso.property c.in-Lasso.stimulus c.in-Lasso.lasso c.args.asked.entry c.args.asked.clause c.in-Lasso.is

pub exported_item-requires-clause-good : goal.exported_item-requires-clause-good
exported_item-requires-clause-good c = good_of c.args.circuit.now c.args.loaded.now c.in-Holds.property c.in-Holds.certificate c.requires c.in-Holds.is

pub exported_item-requires-clause-known : goal.exported_item-requires-clause-known
exported_item-requires-clause-known c = property_known c.args.circuit.now c.args.loaded.now c.in-Holds.property c.in-Holds.certificate c.requires c.in-Holds.is

pub returns-in-Holds : goal.returns-in-Holds
returns-in-Holds c =
    holds_ends (λ text. text.items) c.args.circuit.now c.args.loaded.now c.in-Holds.property c.in-Holds.certificate c.args.asked.entry c.args.asked.clause c.args.asked.lrat c.exported_item.result
    c.in-Holds.is c.exported_item.ensures
