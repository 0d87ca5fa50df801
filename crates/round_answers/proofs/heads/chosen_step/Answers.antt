use Rattle.std.proofs.Common.{rules, ◌≡◌, ◌∙◌, Bool, false, Option, Some, Ok, ap, sym, subst}
use Rattle.std.specs.Prelude.{codes, if◌then◌else◌}
use Rattle.std.specs.Str.{bytes_eq}
use Rattle.certificate_lines.specs.declared.words.Version.{Version}
use Rattle.certificate_lines.specs.declared.words.Version.TheVariants.{Two}
use Rattle.certificate_lines.specs.declared.words.WordLine.{WordLine}
use Rattle.certificate_lines.specs.declared.words.WordLine.TheVariants as lines
use Rattle.certificate_lines.specs.Words.{word_line_of}
use Rattle.certificate.specs.Reading.{Latches}
use Rattle.round_answers.specs.Reading.{Running, version_step}
use Rattle.round_answers.specs.Seen.{TellsStep}
use Rattle.round_answers.proofs.heads.chosen_step.Goals as goal

pub returns-in-Some-Version-Two : goal.returns-in-Some-Version-Two
returns-in-Some-Version-Two c =
    let step = version_step c.args.circuit.now c.args.asked.k c.args.asked.property c.args.number in
    let is : word_line_of c.args.line.now ≡ Some (lines.Version Two) =
    sym c.word_line_of.ensures.value
    ∙ (c.in-Some-Version-Two.is ∙ ap (λ (l : WordLine). Some l) (c.in-Some-Version-Two.field-0-is ∙ ap (λ (v : Version). lines.Version v) c.in-Some-Version-Two.field-0-0-is)) in
    let apart : bytes_eq c.args.line.now (codes "run") ≡ false = search rules in
    subst
    (λ (t : Bool). TellsStep c.args.circuit.now (if t then Ok (Running c.args.asked.k c.args.asked.property (Latches c.args.asked.property)) else step (word_line_of c.args.line.now)) c.listing.result)
    (sym apart)
    (subst (λ (o : Option WordLine). TellsStep c.args.circuit.now (step o) c.listing.result) (sym is) (c.listing.ensures c.args.number))
