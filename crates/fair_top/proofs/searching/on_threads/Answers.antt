use Rattle.std.specs.Prelude.{IfOk, IfErr}
use Rattle.std.proofs.Common.{subst}
use Rattle.fair_workers.specs.Runs.{Task, IsAnswer, IsEnded}
use Rattle.fair_top.proofs.Begun.{few_lent, sound_lent, serves_lent, one_lent, origins_lent, task_lent}
use Rattle.fair_top.proofs.searching.on_threads.Goals as goal

pub run_all-requires-clause-served : goal.run_all-requires-clause-served
run_all-requires-clause-served g c κs within = serves_lent c.args.beginning.now c.as_slice-served.result.now c.as_slice-served.ensures.value c.requires.serves

pub run_all-requires-clause-one : goal.run_all-requires-clause-one
run_all-requires-clause-one g c κs within =
    one_lent c.args.beginning.now c.args.request.now c.as_slice-served.result.now c.limits_of-limits.result c.as_slice-served.ensures.value
    c.limits_of-limits.ensures c.requires.one

pub run_all-requires-clause-few_given : goal.run_all-requires-clause-few_given
run_all-requires-clause-few_given g c κs within = few_lent c.args.beginning.now c.as_slice-given.result.now c.as_slice-given.ensures.value c.requires.begins

pub run_all-requires-clause-given : goal.run_all-requires-clause-given
run_all-requires-clause-given g c κs within = sound_lent c.args.beginning.now c.as_slice-given.result.now c.as_slice-given.ensures.value c.requires.begins

pub run_all-requires-clause-origins : goal.run_all-requires-clause-origins
run_all-requires-clause-origins g c κs within = origins_lent c.args.beginning.now c.as_slice-given.result.now c.as_slice-given.ensures.value c.requires.begins

pub returns-clause-answer : goal.returns-clause-answer
returns-clause-answer g c =
    subst (λ (t : Task). IfOk c.run_all.result (IsAnswer t))
    (task_lent c.args.beginning.now c.args.request.now c.as_slice-served.result.now c.limits_of-limits.result c.as_slice-given.result.now c.as_slice-served.ensures.value c.limits_of-limits.ensures
    c.as_slice-given.ensures.value) c.run_all.ensures.answer

pub returns-clause-ended : goal.returns-clause-ended
returns-clause-ended g c =
    subst (λ (t : Task). IfErr c.run_all.result (IsEnded t))
    (task_lent c.args.beginning.now c.args.request.now c.as_slice-served.result.now c.limits_of-limits.result c.as_slice-given.result.now c.as_slice-served.ensures.value c.limits_of-limits.ensures
    c.as_slice-given.ensures.value) c.run_all.ensures.ended
