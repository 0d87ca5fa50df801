use Rattle.std.proofs.Common.{◌≡◌, ◌++◌, drop}
use Rattle.plain_commands.specs.Texts.{workers_text}
use Rattle.plain_commands.proofs.reports.push_workers.Given as goal

abbrev pub invariant-loop-w : goal.invariant-loop-w
invariant-loop-w l = l.text.items ++ workers_text l.w (drop l.w l.workers) ≡ l.initial.text.items ++ workers_text 0 l.workers
