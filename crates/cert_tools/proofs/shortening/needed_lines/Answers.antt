use Rattle.std.proofs.Common.{◌≡◌, ℕ, List, ap, ◌∙◌, subst}
use Rattle.cert_tools.specs.TrimmingProofs.{is_needed, needed_lines, GetsLine}
use Rattle.cert_tools.proofs.TrimmingLaws.{lines_next, lines_done}
use Rattle.cert_tools.proofs.shortening.needed_lines.Goals as goal

pub loop-line-preserved : goal.loop-line-preserved
loop-line-preserved c =
    let lines : List (List ℕ) = c.args.lines.now in
    let line : List ℕ = c.line-item.result in
    let item : c.as_slice.result.now ≡ line = c.as_slice.ensures in
    let is = c.in_ok-is_kept.ensures ∙ ap (is_needed c.args.numbers.now) item in
    lines_next c.args.numbers.now lines c.loop-line.line-index line c.loop-line.kept c.keep_if.new.kept (needed_lines c.args.numbers.now lines) c.loop-line-test.true
    (subst (λ l. GetsLine (is_needed c.args.numbers.now l) l c.loop-line.kept c.keep_if.new.kept) c.line-item.is
    (subst (λ b. GetsLine b line c.loop-line.kept c.keep_if.new.kept) is c.in_ok-keep_if.ensures)) c.loop-line.invariant

pub returns : goal.returns
returns c =
    lines_done c.args.numbers.now c.args.lines.now c.loop-line.line-index c.loop-line.kept (needed_lines c.args.numbers.now c.args.lines.now) c.loop-line-test.false c.loop-line.invariant
