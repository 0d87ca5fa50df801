use Rattle.std.proofs.Common.{◌≡◌, drop}
use Rattle.aiger_grammar.specs.Sections.{justice_at}
use Rattle.aiger_sections.proofs.LoopLaws.{with_front}
use Rattle.aiger_sections.proofs.properties.justice.Given as goal

abbrev pub invariant-loop-size : goal.invariant-loop-size
invariant-loop-size l = with_front l.properties (justice_at l.max l.total (drop l.size-index l.sizes) l.rest) ≡ justice_at l.max l.total l.sizes l.bytes
