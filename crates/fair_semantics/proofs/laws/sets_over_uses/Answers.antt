use Rattle.fair_semantics.proofs.Sets.{sets_of-at}
use Rattle.fair_semantics.proofs.Alone.{uses_stand_alone, uses_allow}
use Rattle.fair_semantics.proofs.Staying.{stays_valid, front_allows}
use Rattle.fair_semantics.proofs.laws.sets_over_uses.Goals as goal

pub returns-clause-sets : goal.returns-clause-sets
returns-clause-sets c = sets_of-at

pub returns-clause-alone : goal.returns-clause-alone
returns-clause-alone c = uses_stand_alone

pub returns-clause-allowed : goal.returns-clause-allowed
returns-clause-allowed c = uses_allow

pub returns-clause-valid : goal.returns-clause-valid
returns-clause-valid c = stays_valid

pub returns-clause-front : goal.returns-clause-front
returns-clause-front c = front_allows
