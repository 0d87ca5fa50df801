use Rattle.std.proofs.Common.{◌≡◌, ◌++◌, ◌-◌}
use Rattle.aiger_grammar.specs.Deltas.{groups_text, delta_text}
use Rattle.aiger_grammar.proofs.DeltaLaws.{Small}
use Rattle.aiger_binary.proofs.deltas.push_delta.Given as goal

abbrev pub invariant-loop : goal.invariant-loop
invariant-loop l = record {
  text : l.out.items ++ groups_text (4 - l.counter) l.left ≡ l.fn.out.items ++ delta_text l.n;
  small : Small (4 - l.counter) l.left;
}
