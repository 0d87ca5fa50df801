use Rattle.std.proofs.Common.{◌≡◌, ◌↔◌, ℕ, Bool, true}
use Rattle.proof_semantics.specs.Clauses.{cube_value}
use Rattle.ic3_questions.specs.SteppingClauses.{IsOn}
use Rattle.ic3.proofs.stepping_questions.guards.Given as goal

abbrev pub invariant-loop-k : goal.invariant-loop-k
invariant-loop-k l = (v : ℕ → Bool) → (cube_value v l.out.items ≡ true) ↔ IsOn l.free l.level l.k l.number v
