use Rattle.std.proofs.Common.{◌≡◌}
use Rattle.fair_bench.proofs.verdict.judge_lines.Given as goal

-- the given clauses stay
abbrev pub invariant-loop-line : goal.invariant-loop-line
invariant-loop-line l = l.checker.given ≡ l.initial.checker.given
