use Rattle.std.proofs.Common.{List, [], sym, subst}
use Rattle.std.proofs.lemmas.Result.{IfOk-weaker}
use Rattle.fair_semantics.specs.Entries.{Entry}
use Rattle.certificate_texts.specs.declared.certificates.Written.{Written}
use Rattle.certificate.specs.Certificates.{AreProvedBehind}
use Rattle.cert_tools.specs.Exporting.{HasObligation, StandsForObligation}
use Rattle.cert_tools.proofs.ItemLaws.{listed_all}
use Rattle.cert_tools.proofs.exporting.listed_obligation.Goals as goal

pub listed-requires : goal.listed-requires
listed-requires c =
    (c.requires.0, subst (λ (es : List Written). AreProvedBehind c.args.circuit.now [] es c.requires.0) (sym c.as_slice.ensures) c.requires.1)

pub obligation_text-requires : goal.obligation_text-requires
obligation_text-requires c =
    let is = listed_all c.args.circuit.now c.args.certificate.now.entries c.as_slice.result.now c.in_ok-list.list.items c.as_slice-2.result.now c.requires.0 c.as_slice.ensures c.as_slice-2.ensures.value
    c.in_ok-list.ensures c.requires.1 in
    subst (λ (es : List Entry). HasObligation c.args.circuit.now es c.args.asked.entry c.args.asked.clause) (sym is) c.requires.2

pub returns : goal.returns
returns c =
    IfOk-weaker c.obligation_text.result _ _
    (λ text stands all proved.
    subst (λ (es : List Entry). StandsForObligation c.args.circuit.now es c.args.asked.entry c.args.asked.clause text.items)
    (listed_all c.args.circuit.now c.args.certificate.now.entries c.as_slice.result.now c.in_ok-list.list.items c.as_slice-2.result.now all c.as_slice.ensures c.as_slice-2.ensures.value
    c.in_ok-list.ensures proved) stands) c.obligation_text.ensures
