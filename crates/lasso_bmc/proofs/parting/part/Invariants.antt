use Rattle.std.proofs.Common.{◌≡◌, ◌&&◌, ℕ, Bool}
use Rattle.proof_semantics.specs.Clauses.{clauses_value}
use Rattle.lasso_bmc.proofs.parting.part.Given as goal

abbrev pub invariant-loop-clause : goal.invariant-loop-clause
invariant-loop-clause l = record {
  parts : (v : ℕ → Bool) → (clauses_value v l.initial.rest.items && clauses_value v l.fn.clauses.items)
      ≡ ((clauses_value v l.taken.items && clauses_value v l.rest.items) && clauses_value v l.clause-iterator.rest.items);
}
