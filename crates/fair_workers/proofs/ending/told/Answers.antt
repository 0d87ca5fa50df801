use Rattle.std.proofs.Common.{sym, ◌∙◌}
use Rattle.wall_store.proofs.Serving.{settled_all, some_open, unsettled}
use Rattle.fair_workers.specs.BoardWorkers.{task_in}
use Rattle.fair_workers.proofs.Causes.{answer-of, report-of}
use Rattle.fair_workers.proofs.ending.told.Goals as goal

pub returns-then-is_settled-clause-answer : goal.returns-then-is_settled-clause-answer
returns-then-is_settled-clause-answer c =
    answer-of (task_in c.args.task.now) c.args.report c.args.ends.now c.requires.done
    (settled_all c.args.report.board.served (sym c.is_settled.ensures ∙ c.if-is_settled.true)) c.requires.spent c.requires.depths c.requires.depth

pub returns-clause-ended : goal.returns-clause-ended
returns-clause-ended c =
    report-of (task_in c.args.task.now) c.args.report c.args.ends.now c.requires.done (sym c.any_refused.ensures ∙ c.if-any_refused.false)
    (some_open c.args.report.board.served c.requires.done.board.board.ascend (sym c.is_settled.ensures ∙ c.if-is_settled.false)) c.requires.spent
    c.requires.depths c.requires.depth

pub returns-then-is_settled-clause-refused : goal.returns-then-is_settled-clause-refused
returns-then-is_settled-clause-refused c = λ not_so refused.
    absurd (not_so (settled_all c.args.report.board.served (sym c.is_settled.ensures ∙ c.if-is_settled.true)))

pub returns-then-any_refused-clause-first : goal.returns-then-any_refused-clause-first
returns-then-any_refused-clause-first c = λ settled.
    absurd (unsettled c.args.report.board.served c.requires.done.board.board.ascend (sym c.is_settled.ensures ∙ c.if-is_settled.false) settled)

pub returns-clause-first : goal.returns-clause-first
returns-clause-first c = λ settled.
    absurd (unsettled c.args.report.board.served c.requires.done.board.board.ascend (sym c.is_settled.ensures ∙ c.if-is_settled.false) settled)
