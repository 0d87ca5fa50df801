use Rattle.std.proofs.Common.{take}
use Rattle.certificate_texts.specs.Adding.{Adds}
use Rattle.certificate_texts.proofs.adding.add_lines.Given as goal

abbrev pub invariant-loop-line : goal.invariant-loop-line
invariant-loop-line l = Adds l.initial.text.items l.text.items (take l.line-index l.lines)
