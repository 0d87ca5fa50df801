use Rattle.std.proofs.Common.{ℕ, List, length}
use Rattle.cdcl_trail.specs.Watched.{Extends}
use Rattle.cdcl.specs.Resting.{IsRested}
use Rattle.cdcl_log.specs.LoggedClauses.{IsLog}
use Rattle.cdcl.specs.Progress.{IsSearched}
use Rattle.cdcl.specs.Room.{clause_room}
use Rattle.cdcl.specs.Searching.{IsDeciding, count_open}
use Rattle.cdcl.proofs.ProgressLaws.{first_variables}
use Rattle.cdcl.proofs.WayLaws.{work}
use Rattle.cdcl.proofs.searching.decide.Given as goal

abbrev pub invariant-decisions : goal.invariant-decisions
invariant-decisions l = record {
  log : IsLog l.log;
  searched : IsSearched l.assumptions l.initial.log l.log l.initial.meter l.meter;
  on_way : IsDeciding l.log.clauses l.assumptions l.base l.trail.steps;
  extends : Extends l.trail.taken l.log.clauses;
  rest : IsRested l.assumptions l.initial.log l.log;
}

abbrev pub decreases-decisions : goal.decreases-decisions
decreases-decisions l =
    let vars : List ℕ = first_variables l.initial.log.clauses l.assumptions in work (clause_room vars l.log.clauses) (length vars) (count_open vars l.trail.steps)
