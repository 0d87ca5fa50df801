use Rattle.std.proofs.Common.{ap, ◌∙◌}
use Rattle.std.proofs.lemmas.Result.{IfOk-weaker}
use Rattle.text_grammar.specs.Lines.{ended_lines}
use Rattle.cert_tools.specs.Exported.{refutation_item}
use Rattle.cert_tools.proofs.ItemLaws.{lines_spelled, clauses_spelled}
use Rattle.cert_tools.proofs.exporting.spelled_refutation.Goals as goal

pub returns-then-lrat : goal.returns-then-lrat
returns-then-lrat c =
    IfOk-weaker c.lines_text.result _ _
    (λ text is all proved. lines_spelled c.args.lrat (refutation_item c.args.circuit.now c.args.property all c.args.certificate.now) text.items c.if-lrat.true (is ∙ ap ended_lines c.as_slice.ensures))
    c.lines_text.ensures

pub returns : goal.returns
returns c =
    IfOk-weaker c.listed_refutation.result _ _
    (λ text stands all proved. clauses_spelled c.args.lrat (refutation_item c.args.circuit.now c.args.property all c.args.certificate.now) text.items c.if-lrat.false (stands all proved))
    c.listed_refutation.ensures
