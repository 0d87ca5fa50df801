use Rattle.std.proofs.Common.{◌≡◌, ◌≤◌, true, drop, length}
use Rattle.std.specs.Prelude.{is_some}
use Rattle.std.specs.List.{list_all}
use Rattle.cdcl_learn.proofs.learning.last_assumed.Given as goal

-- what is behind has reasons
abbrev pub invariant-places : goal.invariant-places
invariant-places l = record {
  behind : list_all (λ reason. is_some reason) (drop l.place l.reasons) ≡ true;
  within : l.place ≤ length l.reasons;
}

abbrev pub decreases-places : goal.decreases-places
decreases-places l = l.place
