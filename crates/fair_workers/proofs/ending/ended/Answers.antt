use Rattle.std.proofs.Common.{IfErr, sym, subst}
use Rattle.fair_workers.proofs.ending.ended.Goals as goal

pub returns-clause-first : goal.returns-clause-first
returns-clause-first c = λ settled. subst (λ r. IfErr r (λ _. ⊥)) (sym (c.told.ensures.first settled)) tt
