use Rattle.std.proofs.Common.{◌≡◌, take}
use Rattle.cert_tools.proofs.entries.copied_clauses.Given as goal

abbrev pub invariant-loop-literals : goal.invariant-loop-literals
invariant-loop-literals l = l.copy ≡ take l.literals-index l.clauses
