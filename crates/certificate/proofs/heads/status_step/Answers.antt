use Rattle.std.proofs.Common.{subst, sym, ◌∙◌}
use Rattle.std.specs.Prelude.{if◌then◌else◌, codes, Ok, Err}
use Rattle.std.specs.Str.{bytes_eq}
use Rattle.certificate.specs.declared.ends.AnswerFault.TheVariants as faults
use Rattle.certificate.specs.Reading.{HasLasso, HasNone, Property, opens_other, other_status}
use Rattle.certificate.specs.Steps.{Tells}
use Rattle.certificate.proofs.heads.status_step.Goals as goal

pub returns : goal.returns
returns c =
    let here = c.args._circuit.now in
    let line = c.args.line.now in
    let number = c.args.number in
    let end = c.other_status.result in
    let other = other_status number (opens_other line) in
    subst (λ t. Tells here (if t then Ok (Property HasLasso) else if bytes_eq line (codes "0") then Ok (Property HasNone) else if bytes_eq line (codes "2") then Err faults.UnknownStatus else other) end) (sym c.if-is_word.false ∙ c.is_word.ensures)
    (subst (λ t. Tells here (if t then Ok (Property HasNone) else if bytes_eq line (codes "2") then Err faults.UnknownStatus else other) end) (sym c.if-is_word-2.false ∙ c.is_word-2.ensures)
    (subst (λ t. Tells here (if t then Err faults.UnknownStatus else other) end) (sym c.if-is_word-3.false ∙ c.is_word-3.ensures) (c.other_status.ensures here)))
