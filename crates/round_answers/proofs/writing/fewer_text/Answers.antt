use Rattle.std.proofs.Common.{◌≡◌, ◌∙◌, ap, subst, arith}
use Rattle.aig_semantics.specs.Circuits.{Circuit, IsChecked, IsWithinLimits}
use Rattle.certificate_texts.specs.Writing.{certificate_text}
use Rattle.round_monitor.specs.Monitor.{monitor_circuit}
use Rattle.round_answers.specs.Writing.{certificate_of}
use Rattle.round_answers.proofs.Adding.{replaced_if}
use Rattle.round_answers.proofs.Accepted.{fewer_if}
use Rattle.round_answers.proofs.writing.fewer_text.Goals as goal

pub returns-clause-text : goal.returns-clause-text
returns-clause-text c =
    let t : Circuit = monitor_circuit c.args.c.now c.args.j c.args.k in
    let is : c.as_slice.result.now ≡ certificate_text c.args.j (certificate_of t c.args.entries.now c.args.refutation.now) =
    c.as_slice.ensures.value ∙ c.in_ok-answer.ensures ∙ ap (λ (u : Circuit). certificate_text c.args.j (certificate_of u c.args.entries.now c.args.refutation.now)) c.in_ok-model.ensures in
    replaced_if c.with_first_line.result (λ text. text.items) c.args.k c.args.j (certificate_of t c.args.entries.now c.args.refutation.now) c.as_slice.result.now is c.with_first_line.ensures.text

pub returns-clause-good : goal.returns-clause-good
returns-clause-good c =
    let same : c.circuit.result.now ≡ monitor_circuit c.args.c.now c.args.j c.args.k = c.circuit.ensures.circuit ∙ c.in_ok-model.ensures in
    fewer_if c.with_first_line.result (λ text. text.items) c.args.c.now c.args.j c.args.k c.args.entries.now c.args.refutation.now
    (subst IsChecked same c.max-limits.ensures.checked) (subst IsWithinLimits same c.max-limits.ensures.limits) (omega arith) c.requires.some c.requires.able
    (returns-clause-text c) c.with_first_line.ensures.within
