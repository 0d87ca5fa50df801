use Rattle.std.proofs.Common.{◌≡◌, ◌≤◌, ◌||◌, true, drop, length}
use Rattle.std.specs.List.{list_all}
use Rattle.proof_semantics.specs.Clauses.{lit_eq}
use Rattle.cdcl_trail.specs.Propagation.{is_false}
use Rattle.cdcl_trail.proofs.looking.last_replacement.Given as goal

-- the literals behind the place are the other one, or false
abbrev pub invariant-places : goal.invariant-places
invariant-places l = record {
  within : l.place ≤ length l.clause;
  behind : list_all (λ b. lit_eq l.other b || is_false l.assignment.steps b) (drop l.place l.clause) ≡ true;
}

abbrev pub decreases-places : goal.decreases-places
decreases-places l = l.place
