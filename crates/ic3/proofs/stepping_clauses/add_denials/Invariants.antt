use Rattle.std.proofs.Common.{◌≡◌, ◌++◌, map, take}
use Rattle.ic3_questions.specs.SteppingClauses.{guarded, denied_at}
use Rattle.ic3.proofs.stepping_clauses.add_denials.Given as goal

abbrev pub invariant-loop-cube : goal.invariant-loop-cube
invariant-loop-cube l = l.solver.added ≡ l.initial.solver.added ++ map (λ x. guarded l.guard (denied_at l.place x)) (take l.cube-index l.cubes)
