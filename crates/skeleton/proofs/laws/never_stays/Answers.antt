use Rattle.skeleton.proofs.Staying.{never_stays}
use Rattle.skeleton.proofs.laws.never_stays.Goals as goal

pub returns : goal.returns
returns c = never_stays
