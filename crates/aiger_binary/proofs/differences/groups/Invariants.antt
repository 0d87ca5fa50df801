use Rattle.std.proofs.Common.{◌≡◌, ◌*◌, ◌≤◌, drop}
use Rattle.aig_semantics.specs.declared.limits.TheConstants.{MAX_NUMBER}
use Rattle.aiger_binary.specs.Groups.{summed_at}
use Rattle.aiger_binary.proofs.differences.groups.Given as goal

abbrev pub invariant-loop-i : goal.invariant-loop-i
invariant-loop-i l =
    (summed_at l.first l.total l.unit l.so_far (drop l.i l.bytes) ≡ summed_at l.first l.total 1 0 l.bytes) × (1 ≤ l.unit) × (l.unit ≤ 128 * MAX_NUMBER) × (l.so_far ≤ MAX_NUMBER)
