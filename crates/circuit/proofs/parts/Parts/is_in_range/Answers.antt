use Rattle.circuit.proofs.Ranges.{IsFitting-from, AreInRange-from}
use Rattle.circuit.proofs.parts.Parts.is_in_range.Goals as goal

pub returns : goal.returns
returns c = (
  λ yes. AreInRange-from c.args.self.now (c.fits.ensures.0 yes),
  λ range. c.fits.ensures.1 (IsFitting-from c.args.self.now range),
)
