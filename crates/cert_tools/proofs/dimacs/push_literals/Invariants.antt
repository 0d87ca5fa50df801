use Rattle.std.proofs.Common.{◌≡◌, ◌++◌, take}
use Rattle.std.specs.List.{flat_map}
use Rattle.cert_tools.specs.Dimacs.{literal_field}
use Rattle.cert_tools.proofs.dimacs.push_literals.Given as goal

abbrev pub invariant-loop-literal : goal.invariant-loop-literal
invariant-loop-literal l = l.text.items ≡ l.initial.text.items ++ flat_map literal_field (take l.literal-index l.clause)
