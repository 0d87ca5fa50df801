use Rattle.std.proofs.Common.{get_or}
use Rattle.ternary.proofs.Words.{value-not}
use Rattle.ternary.proofs.lanes.negated.Goals as goal

pub returns : goal.returns
returns c = λ k below. value-not (get_or c.args.words 0 0) (get_or c.args.words 1 0) k below c.element_fits.fits c.element_fits2.fits
