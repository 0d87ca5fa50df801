-- What a search, and what is asked of a solver behind it, leave of a meter.
use Rattle.std.proofs.Common.{ℕ, ◌+◌, ◌*◌, ◌^◌, ◌≤◌, refl, ◌∙◌, arith, subst, sym}
use Rattle.edge.specs.Units.{Spendings}
use Rattle.edge.specs.Ends.{CountsConflicts}
use Rattle.ic3_semantics.specs.Searching.{CountsSearch}

pub no-conflicts : (a : Spendings) → CountsConflicts a a
no-conflicts a = record { conflict_limit = refl; step_limit = refl; steps = refl; conflicts = omega arith }

pub search-on : (n : ℕ) (a b c : Spendings) → CountsSearch n a b → CountsConflicts b c → CountsSearch n a c
search-on n a b c first second = record {
  conflict_limit = second.conflict_limit ∙ first.conflict_limit;
  step_limit = second.step_limit ∙ first.step_limit;
  conflicts = (let x = first.conflicts in let y = second.conflicts in omega (arith, x, y));
  steps = subst (λ m. a.steps ≤ m) (sym second.steps) first.steps;
  bound = subst (λ m. m ≤ a.steps + (2 ^ n + 2) * (2 ^ n + 2)) (sym second.steps) first.bound;
}
