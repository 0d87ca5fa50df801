use Rattle.std.specs.Prelude.{IfOk, IfErr}
use Rattle.std.proofs.Common.{subst}
use Rattle.fair_workers.specs.Runs.{Task, IsAnswer, IsEnded}
use Rattle.fair_top.proofs.Begun.{few_lent, sound_lent, serves_lent, one_lent, task_lent}
use Rattle.fair_top.proofs.searching.in_turns.Goals as goal

pub run_turns-requires-clause-served : goal.run_turns-requires-clause-served
run_turns-requires-clause-served c = serves_lent c.args.beginning.now c.as_slice-served.result.now c.as_slice-served.ensures.value c.requires.serves

pub run_turns-requires-clause-one : goal.run_turns-requires-clause-one
run_turns-requires-clause-one c =
    one_lent c.args.beginning.now c.args.request.now c.as_slice-served.result.now c.limits_of-limits.result c.as_slice-served.ensures.value
    c.limits_of-limits.ensures c.requires.one

pub run_turns-requires-clause-few_given : goal.run_turns-requires-clause-few_given
run_turns-requires-clause-few_given c = few_lent c.args.beginning.now c.as_slice-given.result.now c.as_slice-given.ensures.value c.requires.begins

pub run_turns-requires-clause-given : goal.run_turns-requires-clause-given
run_turns-requires-clause-given c = sound_lent c.args.beginning.now c.as_slice-given.result.now c.as_slice-given.ensures.value c.requires.begins

pub returns-clause-answer : goal.returns-clause-answer
returns-clause-answer c =
    subst (λ (t : Task). IfOk c.run_turns.result (IsAnswer t))
    (task_lent c.args.beginning.now c.args.request.now c.as_slice-served.result.now c.limits_of-limits.result c.as_slice-given.result.now c.as_slice-served.ensures.value c.limits_of-limits.ensures
    c.as_slice-given.ensures.value) c.run_turns.ensures.answer

pub returns-clause-ended : goal.returns-clause-ended
returns-clause-ended c =
    subst (λ (t : Task). IfErr c.run_turns.result (IsEnded t))
    (task_lent c.args.beginning.now c.args.request.now c.as_slice-served.result.now c.limits_of-limits.result c.as_slice-given.result.now c.as_slice-served.ensures.value c.limits_of-limits.ensures
    c.as_slice-given.ensures.value) c.run_turns.ensures.ended
