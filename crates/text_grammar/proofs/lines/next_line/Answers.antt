use Rattle.std.proofs.Common.{◌∙◌, ap, sym, true≢false, eqb, length}
use Rattle.text_grammar.proofs.LineLaws.{first_line, last_line}
use Rattle.text_grammar.proofs.lines.next_line.Goals as goal

pub returns-in-Some-clause-found : goal.returns-in-Some-clause-found
returns-in-Some-clause-found c = first_line _ _ _ c.in-Some.ensures.found

pub returns-in-None-clause-found : goal.returns-in-None-clause-found
returns-in-None-clause-found c =
    last_line c.args.bytes.now c.in-None.ensures.none
    (λ none. true≢false (sym (ap (λ bytes. eqb (length bytes) 0) none) ∙ sym c.is_empty.ensures ∙ c.if-is_empty.false))
