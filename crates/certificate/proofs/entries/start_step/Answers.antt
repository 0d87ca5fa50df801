use Rattle.std.proofs.Common.{◌≡◌, Some, sym, ap, subst, ◌∙◌}
use Rattle.std.specs.Prelude.{Option}
use Rattle.certificate_lines.specs.declared.words.WordLine.{WordLine}
use Rattle.certificate_lines.specs.declared.words.WordLine.TheVariants as lines
use Rattle.certificate_lines.specs.Words.{word_line_of}
use Rattle.certificate.specs.Reading.{start_step}
use Rattle.certificate.specs.Seen.{seen_body}
use Rattle.certificate.specs.Steps.{TellsWanted}
use Rattle.certificate.proofs.entries.start_step.Goals as goal

pub returns-in-Some-Opening : goal.returns-in-Some-Opening
returns-in-Some-Opening c =
    let is : Some (lines.Opening c.in-Some-Opening.opening) ≡ word_line_of c.args.line.now =
    ap (λ (l : WordLine). Some l) (sym c.in-Some-Opening.field-0-is) ∙ sym c.in-Some-Opening.is ∙ c.word_line_of.ensures.value in
    subst (λ (l : Option WordLine). TellsWanted c.args.circuit.now (start_step (seen_body c.args.body.now) c.args.number l) c.args.body.now c.opening_step.result) is
    c.opening_step.ensures
