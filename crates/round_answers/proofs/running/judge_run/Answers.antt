use Rattle.std.proofs.Common.{arith}
use Rattle.round_answers.proofs.RunEnds.{reached_by}
use Rattle.round_answers.proofs.running.judge_run.Goals as goal

pub returns : goal.returns
returns c = (
  c.shown.ensures,
  reached_by c.args.c.now c.args.asked.k c.args.asked.property c.args.s.now c.as_slice.result.now c.in_ok-run.run' c.as_slice-2.result.now c.in_ok-run.whole c.in_ok-count.count
      c.in_default.ensures.none c.as_slice.ensures c.in_default-first_wrong.ensures.none c.in_ok-run.ensures c.if-not-whole.false c.as_slice-2.ensures c.in_ok-count.ensures
      (omega (arith, c.if-count-from.false, c.from.ensures)),
)
