use Rattle.std.proofs.Common.{◌≡◌, drop, None}
use Rattle.proof_semantics.specs.Propagation.{open_literals}
use Rattle.lrat.specs.Propagating.{left_of}
use Rattle.lrat.proofs.propagation.count_open.Given as goal

-- what was found and the literals that are left have the answer
abbrev pub invariant-loop-literal : goal.invariant-loop-literal
invariant-loop-literal l =
    left_of l.only (open_literals l.marks (drop l.literal-index l.clause)) ≡ left_of None (open_literals l.marks l.clause)
