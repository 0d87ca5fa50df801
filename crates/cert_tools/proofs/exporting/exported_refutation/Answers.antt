use Rattle.std.proofs.Common.{sym, ◌∙◌, length}
use Rattle.cert_tools.proofs.ItemLaws.{refutation_there, refutation_not, refutation_is}
use Rattle.cert_tools.proofs.exporting.exported_refutation.Goals as goal

pub returns-then-not-is_refutation : goal.returns-then-not-is_refutation
returns-then-not-is_refutation c =
    refutation_not c.args.asked.entry c.args.asked.clause (length c.args.certificate.now.entries) (sym c.is_refutation.ensures ∙ c.if-not-is_refutation.true)

pub returns : goal.returns
returns c =
    let good = c.requires.good in
    let there = refutation_there c.args.asked.entry c.args.asked.clause (length c.args.certificate.now.entries) (sym c.is_refutation.ensures ∙ c.if-not-is_refutation.false) in (
      refutation_is c.args.circuit.now c.args.property c.args.certificate.now c.args.asked.entry c.args.asked.clause c.args.asked.lrat c.in_ok-text.text.items good there.0 there.1
          (c.in_ok-text.ensures good.entries good.proved),
      there,
    )
