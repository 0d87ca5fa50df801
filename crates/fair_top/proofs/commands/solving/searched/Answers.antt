use Rattle.std.proofs.Common.{subst}
use Rattle.std.specs.Prelude.{IfOk, IfErr}
use Rattle.fair_workers.specs.Runs.{Task, IsAnswer, IsEnded}
use Rattle.fair_top.proofs.Begun.{asked_task, serves_one}
use Rattle.fair_top.proofs.commands.solving.searched.Goals as goal

pub search-requires : goal.search-requires
search-requires g c = c.requires.search.called _ _ c.requires.within c.requires.serves
    (serves_one c.args.beginning.now c.args.request.now c.requires.served) c.requires.begins

pub returns-clause-answer : goal.returns-clause-answer
returns-clause-answer g c =
    subst (λ (t : Task). IfOk c.search.result (IsAnswer t)) (asked_task c.args.beginning.now c.args.request.now c.requires.served) (c.requires.search.answer _ _ _ c.search.ensures)

pub returns-clause-ended : goal.returns-clause-ended
returns-clause-ended g c =
    subst (λ (t : Task). IfErr c.search.result (IsEnded t)) (asked_task c.args.beginning.now c.args.request.now c.requires.served) (c.requires.search.ended _ _ _ c.search.ensures)
