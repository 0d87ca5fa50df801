use Rattle.std.proofs.Common.{◌≡◌, ◌+◌, ◌++◌, drop}
use Rattle.plain_commands.specs.Texts.{lassos_text}
use Rattle.plain_commands.proofs.reports.push_lassos.Given as goal

abbrev pub invariant-loop-i : goal.invariant-loop-i
invariant-loop-i l = record {
  text : l.text.items ++ lassos_text l.depth l.w (drop l.i l.workers) (drop l.i l.depths) ≡ l.initial.text.items ++ lassos_text l.depth l.first l.workers l.depths;
  number : l.w ≡ l.first + l.i;
}
