use Rattle.std.proofs.Common.{◌≡◌, ◌++◌, take}
use Rattle.aiger_grammar.specs.Spelling.{spaced}
use Rattle.aiger_sections.proofs.heading_text.push_spaced.Given as goal

abbrev pub invariant-loop-number : goal.invariant-loop-number
invariant-loop-number l = l.out.items ≡ l.fn.out.items ++ spaced (take l.number-index l.numbers)
