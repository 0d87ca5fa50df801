use Rattle.std.proofs.Common.{◌∙◌, sym, ap, length}
use Rattle.fair_top.proofs.Decided.{good_certificate}
use Rattle.fair_top.proofs.commands.solving.certificate_text.Goals as goal

pub returns-clause-printed : goal.returns-clause-printed
returns-clause-printed c =
    good_certificate c.args.circuit.now c.args.request.now c.args.board.now _ c.args.refutation.now c.entry_count.result c.in_ok-text.text.items
    c.written_certificates_are_good.ensures c.good_answers_are_true.ensures c.holds.ensures c.requires.circuit c.entries.ensures.checked c.requires.property c.requires.good
    (c.entry_count.ensures ∙ sym (ap length c.entries.ensures.checked)) c.in_ok-text.ensures.text c.in_ok-text.ensures.within
