use Rattle.std.proofs.Common.{◌<◌, List, [], length, sym, subst, All}
use Rattle.std.proofs.lemmas.Result.{IfOk-weaker}
use Rattle.fair_semantics.specs.declared.entries.Use.{Use}
use Rattle.fair_semantics.specs.Entries.{Entry}
use Rattle.certificate_texts.specs.declared.certificates.Written.{Written}
use Rattle.certificate.specs.Certificates.{AreProvedBehind}
use Rattle.cert_tools.specs.Exporting.{EntriesAreOver, StandsForSkeleton}
use Rattle.cert_tools.proofs.ItemLaws.{entries_over, listed_all, refuting_uses}
use Rattle.cert_tools.proofs.exporting.listed_refutation.Goals as goal

pub listed-requires : goal.listed-requires
listed-requires c =
    let good = c.requires.good in
    (good.entries, subst (λ (es : List Written). AreProvedBehind c.args.circuit.now [] es good.entries) (sym c.as_slice.ensures) good.proved)

pub skeleton_text-requires-clause-uses : goal.skeleton_text-requires-clause-uses
skeleton_text-requires-clause-uses c =
    let good = c.requires.good in
    let is = listed_all c.args.circuit.now c.args.certificate.now.entries c.as_slice.result.now c.in_ok-list.list.items c.as_slice-2.result.now good.entries c.as_slice.ensures c.as_slice-2.ensures.value
    c.in_ok-list.ensures good.proved in
    subst (λ (us : List Use). All (λ (u : Use). u.entry < length c.as_slice-2.result.now) us) (sym c.as_slice-uses.ensures)
    (refuting_uses c.args.circuit.now c.args.property c.args.certificate.now c.as_slice-2.result.now good is)

pub skeleton_text-requires-clause-over : goal.skeleton_text-requires-clause-over
skeleton_text-requires-clause-over c =
    let good = c.requires.good in
    let is = listed_all c.args.circuit.now c.args.certificate.now.entries c.as_slice.result.now c.in_ok-list.list.items c.as_slice-2.result.now good.entries c.as_slice.ensures c.as_slice-2.ensures.value
    c.in_ok-list.ensures good.proved in
    subst (EntriesAreOver c.args.circuit.now) (sym is) (entries_over c.args.circuit.now c.args.certificate.now.entries good.entries good.proved)

pub returns : goal.returns
returns c =
    IfOk-weaker c.skeleton_text.result _ _
    (λ text stands all proved.
    let is = listed_all c.args.circuit.now c.args.certificate.now.entries c.as_slice.result.now c.in_ok-list.list.items c.as_slice-2.result.now all c.as_slice.ensures c.as_slice-2.ensures.value
    c.in_ok-list.ensures proved in
    subst (λ (us : List Use). StandsForSkeleton c.args.circuit.now c.args.property all us text.items) c.as_slice-uses.ensures
    (subst (λ (es : List Entry). StandsForSkeleton c.args.circuit.now c.args.property es c.as_slice-uses.result.now text.items) is stands)) c.skeleton_text.ensures
