use Rattle.std.proofs.Common.{ℕ, ◌≤◌, [], refl, arith}
use Rattle.std.proofs.lemmas.List.Elements.{All-nil, All-from_recursion}
use Rattle.std.proofs.Common.{lit≤, inl}
use Rattle.aig_semantics.specs.Circuits.{defined, used, IsOnCycle}
use Rattle.aig_semantics.proofs.Checking.{ReadsLower, acyclic-from_lower, once-from_tests, defined-from_test}
use Rattle.aig_semantics.specs.Examples.{stuck, self_reading}
use Rattle.aig_semantics.proofs.worked_rows.cycles.Goals as goal

reads_itself : IsOnCycle self_reading 2
reads_itself = ([], (0, _, omega arith, refl, (refl, inl refl)))

pub returns-clause-refused : goal.returns-clause-refused
returns-clause-refused c = λ h. h.acyclic 2 reads_itself

pub returns-clause-latch : goal.returns-clause-latch
returns-clause-latch c =
    let Inside : ℕ → Type 0 = λ v. (1 ≤ v) × (v ≤ 1) in
    record {
      in_range = All-from_recursion Inside (defined stuck) ((lit≤ tt, lit≤ tt), tt);
      once = once-from_tests (defined stuck) (refl, tt);
      used_defined = defined-from_test stuck (used stuck) refl;
      acyclic = acyclic-from_lower stuck (All-nil ReadsLower);
    }
