use Rattle.std.proofs.Common.{sym, ◌∙◌, ap, map}
use Rattle.proof_semantics.specs.Lines.{addition, deletion, addition_of}
use Rattle.lrat.specs.Reading.{fields_behind, behind, given_if}
use Rattle.lrat.proofs.ReadingLaws.{line_of-None, line_of-short, line_of-deletion, line_of-addition}
use Rattle.lrat.proofs.lines.read_line.Goals as goal

pub returns-in_default : goal.returns-in_default
returns-in_default c = sym (line_of-None _ _ _ c.first_field.ensures (sym c.in_default.ensures))

pub returns-in_default-rest : goal.returns-in_default-rest
returns-in_default-rest c =
    sym (line_of-short _ _ _ _ c.first_field.ensures (sym c.in-Some.ensures) (ap (λ o. fields_behind (behind o)) c.in_default-rest.is))

pub returns-then-branch : goal.returns-then-branch
returns-then-branch c =
    let rest = ap (λ o. fields_behind (behind o)) c.in-Some-rest.is in
    sym (line_of-deletion _ _ _ _ _ _ c.first_field.ensures (sym c.in-Some.ensures) (rest ∙ c.first_field-2.ensures) (sym c.is_one_byte.ensures ∙ c.if-is_one_byte.true)
    ∙ c.in_ok-read_deletion.ensures _
    ∙ ap (λ b. given_if b (deletion c.in-Some.id (map (λ a. a.var) c.read_deletion.new.ids.items))) c.if-branch.true)

pub returns-then-is_one_byte : goal.returns-then-is_one_byte
returns-then-is_one_byte c =
    let rest = ap (λ o. fields_behind (behind o)) c.in-Some-rest.is in
    sym (line_of-deletion _ _ _ _ _ _ c.first_field.ensures (sym c.in-Some.ensures) (rest ∙ c.first_field-2.ensures) (sym c.is_one_byte.ensures ∙ c.if-is_one_byte.true)
    ∙ c.in_ok-read_deletion.ensures _
    ∙ ap (λ b. given_if b (deletion c.in-Some.id (map (λ a. a.var) c.read_deletion.new.ids.items))) c.if-branch.false)

pub returns-then-branch-2 : goal.returns-then-branch-2
returns-then-branch-2 c =
    let rest = ap (λ o. fields_behind (behind o)) c.in-Some-rest.is in
    sym (line_of-addition _ _ _ _ _ _ c.first_field.ensures (sym c.in-Some.ensures) (rest ∙ c.first_field-2.ensures) (sym c.is_one_byte.ensures ∙ c.if-is_one_byte.false)
    ∙ ap (addition_of c.in-Some.id) rest
    ∙ c.in_ok-read_addition.ensures _
    ∙ ap (λ b. given_if b (addition c.in-Some.id c.read_addition.new.literals.items c.read_addition.new.hints.items)) c.if-branch-2.true)

pub returns : goal.returns
returns c =
    let rest = ap (λ o. fields_behind (behind o)) c.in-Some-rest.is in
    sym (line_of-addition _ _ _ _ _ _ c.first_field.ensures (sym c.in-Some.ensures) (rest ∙ c.first_field-2.ensures) (sym c.is_one_byte.ensures ∙ c.if-is_one_byte.false)
    ∙ ap (addition_of c.in-Some.id) rest
    ∙ c.in_ok-read_addition.ensures _
    ∙ ap (λ b. given_if b (addition c.in-Some.id c.read_addition.new.literals.items c.read_addition.new.hints.items)) c.if-branch-2.false)
