use Rattle.std.proofs.Common.{◌≡◌, ℕ, List, get_or, ap, sym, ◌∙◌}
use Rattle.proof_semantics.specs.Lines.{line_of}
use Rattle.cert_tools.specs.TrimmingProofs.{empty_in, first_empty}
use Rattle.cert_tools.proofs.TrimmingLaws.{first_left, first_there, first_done}
use Rattle.cert_tools.proofs.shortening.first_empty.Goals as goal

pub returns-in-Some : goal.returns-in-Some
returns-in-Some c =
    let lines : List (List ℕ) = c.args.lines.now in
    let line : List ℕ = c.line-item.result in
    let item : c.as_slice.result.now ≡ get_or lines c.loop-line.line-index line = c.as_slice.ensures ∙ c.line-item.is in
    first_there lines c.loop-line.line-index line c.in-Some.id (first_empty lines) c.loop-line-test.true
    (ap (λ l. empty_in (line_of l)) (sym item) ∙ sym c.in_ok-id.ensures ∙ c.in-Some.is) c.loop-line.invariant

pub loop-line-preserved : goal.loop-line-preserved
loop-line-preserved c =
    let lines : List (List ℕ) = c.args.lines.now in
    let line : List ℕ = c.line-item.result in
    let item : c.as_slice.result.now ≡ get_or lines c.loop-line.line-index line = c.as_slice.ensures ∙ c.line-item.is in
    first_left lines c.loop-line.line-index line (first_empty lines) c.loop-line-test.true
    (ap (λ l. empty_in (line_of l)) (sym item) ∙ sym c.in_ok-id.ensures ∙ c.in-None.is) c.loop-line.invariant

pub returns : goal.returns
returns c = first_done c.args.lines.now c.loop-line.line-index (first_empty c.args.lines.now) c.loop-line-test.false c.loop-line.invariant
