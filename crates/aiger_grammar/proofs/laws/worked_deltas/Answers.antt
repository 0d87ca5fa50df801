use Rattle.std.proofs.Common.{refl}
use Rattle.aiger_grammar.specs.Deltas.{groups_text}
use Rattle.aiger_grammar.proofs.laws.worked_deltas.Goals as goal

pub returns-clause-none : goal.returns-clause-none
unfolding groups_text
returns-clause-none c = refl

pub returns-clause-two : goal.returns-clause-two
unfolding groups_text
returns-clause-two c = refl

pub returns-clause-one_group : goal.returns-clause-one_group
unfolding groups_text
returns-clause-one_group c = refl

pub returns-clause-two_groups : goal.returns-clause-two_groups
unfolding groups_text
returns-clause-two_groups c = refl

pub returns-clause-low_first : goal.returns-clause-low_first
unfolding groups_text
returns-clause-low_first c = refl

pub returns-clause-more : goal.returns-clause-more
unfolding groups_text
returns-clause-more c = refl

pub returns-clause-greatest : goal.returns-clause-greatest
unfolding groups_text
returns-clause-greatest c = refl
