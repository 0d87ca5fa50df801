use Rattle.entry.proofs.Faultless.{faultless_is_proved, faultless_is_good}
use Rattle.entry.proofs.laws.faultless_is_proved.Goals as goal

pub returns-clause-entries : goal.returns-clause-entries
returns-clause-entries c = faultless_is_proved c.args.c.now

pub returns-clause-refutations : goal.returns-clause-refutations
returns-clause-refutations c = faultless_is_good c.args.c.now
