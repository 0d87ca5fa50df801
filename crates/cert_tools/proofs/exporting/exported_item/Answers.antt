use Rattle.std.proofs.Common.{sym}
use Rattle.cert_tools.proofs.ItemLaws.{entry_ends, none_ends}
use Rattle.cert_tools.proofs.exporting.exported_item.Goals as goal

pub exported_obligation-requires-clause-proved : goal.exported_obligation-requires-clause-proved
exported_obligation-requires-clause-proved c = (c.requires.good.entries, c.requires.good.proved)

pub exported_obligation-requires-clause-there : goal.exported_obligation-requires-clause-there
exported_obligation-requires-clause-there c = sym c.in-Some.ensures

pub returns-in-Some : goal.returns-in-Some
returns-in-Some c =
    entry_ends (λ text. text.items) c.args.circuit.now c.args.property c.args.certificate.now c.args.asked.entry c.args.asked.clause c.args.asked.lrat c.in-Some.e.now c.exported_obligation.result
    (sym c.in-Some.ensures) c.exported_obligation.ensures

pub returns-in-None : goal.returns-in-None
returns-in-None c =
    none_ends (λ text. text.items) c.args.circuit.now c.args.property c.args.certificate.now c.args.asked.entry c.args.asked.clause c.args.asked.lrat c.exported_refutation.result
    (sym c.in-None.ensures) c.exported_refutation.ensures
