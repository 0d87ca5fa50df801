use Rattle.cert_tools.specs.Exported.{IsExported, HasItem}
use Rattle.cert_tools.proofs.ItemLaws.{ends_text, ends_there, ends_none}
use Rattle.cert_tools.proofs.exporting.export.Goals as goal

pub returns-clause-text : goal.returns-clause-text
returns-clause-text c =
    ends_text (λ text. IsExported c.args.circuit.now c.args.loaded.now c.args.asked.entry c.args.asked.clause c.args.asked.lrat text.items)
    (HasItem c.args.loaded.now c.args.asked.entry c.args.asked.clause) c.exported.result c.exported.ensures

pub returns-clause-there : goal.returns-clause-there
returns-clause-there c =
    ends_there (λ text. IsExported c.args.circuit.now c.args.loaded.now c.args.asked.entry c.args.asked.clause c.args.asked.lrat text.items)
    (HasItem c.args.loaded.now c.args.asked.entry c.args.asked.clause) c.exported.result c.exported.ensures

pub returns-clause-none : goal.returns-clause-none
returns-clause-none c =
    ends_none (λ text. IsExported c.args.circuit.now c.args.loaded.now c.args.asked.entry c.args.asked.clause c.args.asked.lrat text.items)
    (HasItem c.args.loaded.now c.args.asked.entry c.args.asked.clause) c.exported.result c.exported.ensures
