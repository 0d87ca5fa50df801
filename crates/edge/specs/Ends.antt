-- What a question to a solver with a budget of conflicts (MiniSat: Eén, Sörensson, 2003) leaves of a meter, how one ends
-- that has no answer, and where a budget is spent.
use Rattle.std.specs.Prelude.{◌≡◌, ◌≤◌, ◌⊎◌, Some}
use Rattle.edge.specs.Units.{Spendings}
use Rattle.edge.specs.declared.metering.Counted.TheVariants.{Conflicts}
use Rattle.edge.specs.declared.solve_end.SolveEnd.{SolveEnd}
use Rattle.edge.specs.declared.solve_end.SolveEnd.TheVariants.{Spent, Memory}

-- Spent comes where the count of conflicts equals its limit.
abbrev pub IsEnd : Spendings → SolveEnd → Type 0
IsEnd meter (Spent spent) =
    (meter.conflict_limit ≡ Some meter.conflicts) × (spent ≡ record { kind = Conflicts; limit = meter.conflicts })
IsEnd meter Memory = Unit {0}

-- Nothing but conflicts was counted: both limits and the count of steps are as before, and that of conflicts did not
-- fall.
pub record CountsConflicts (old new : Spendings) : Type 0 where
  pub conflict_limit : new.conflict_limit ≡ old.conflict_limit
  pub step_limit : new.step_limit ≡ old.step_limit
  pub steps : new.steps ≡ old.steps
  pub conflicts : old.conflicts ≤ new.conflicts

-- the count of conflicts, or that of steps, equals its limit
abbrev pub IsSpent : Spendings → Type 0
IsSpent spent = (spent.conflict_limit ≡ Some spent.conflicts) ⊎ (spent.step_limit ≡ Some spent.steps)
