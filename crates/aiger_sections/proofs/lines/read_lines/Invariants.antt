use Rattle.std.proofs.Common.{◌≡◌, ◌-◌}
use Rattle.aiger_grammar.specs.Reading.{many}
use Rattle.aiger_sections.proofs.LoopLaws.{with_front}
use Rattle.aiger_sections.proofs.lines.read_lines.Given as goal

abbrev pub invariant-loop-number : goal.invariant-loop-number
invariant-loop-number g l =
    with_front l.values (many (λ k. g.L.Line.item_at l.line k l.total) l.number (l.count - l.number) l.rest) ≡ many (λ k. g.L.Line.item_at l.line k l.total) 0 l.count l.bytes
