use Rattle.std.proofs.Common.{◌≡◌, length}
use Rattle.text_grammar.specs.Lines.{lines_of}
use Rattle.given_entries.specs.Given.{claims_lasso}
use Rattle.given_entries.proofs.loading.claims_lasso.Given as goal

abbrev pub invariant-loop-line : goal.invariant-loop-line
invariant-loop-line l = claims_lasso (lines_of l.rest) ≡ claims_lasso (lines_of l.fn.text)

abbrev pub decreases-loop-line : goal.decreases-loop-line
decreases-loop-line l = length l.rest
