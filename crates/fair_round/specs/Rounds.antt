-- Scaffolding of inner functions. What a worker keeps from round to round.
use Rattle.std.specs.Prelude.{◌≡◌, IfSome}
use Rattle.std.specs.List.{All}
use Rattle.std.specs.Arc.{arc_value}
use Rattle.entry.specs.CheckedEntries.{viewed, GoesOnFrom}
use Rattle.skeleton.specs.Finding.{Asking, BeginsNone}
use Rattle.fair_round.specs.declared.rounds.Rounds.TheInside.{Inside}
use Rattle.fair_round.specs.Pools.{IsRun}
use Rattle.fair_round.specs.Stems.{IsFit}

abbrev pub asking_of : Inside → Asking
asking_of s = record { circuit = s.query.circuit; property = s.query.property; seen = viewed s.seen }

-- The circuit is the query's, which has seen no more entries, the runs are initial ones, in the cubes no skeleton begins,
-- and the search is one from the initial states.
pub record IsKept (s : Inside) : Type 0 where
  pub circuit : arc_value s.circuit ≡ s.query.circuit
  pub on : GoesOnFrom s.query.seen (viewed s.seen)
  pub runs : All (IsRun s.query.circuit) s.runs.items
  pub avoid : All (BeginsNone s.query.circuit s.query.property (viewed s.seen)) s.avoid
  pub search : IfSome s.search (IsFit s.query.circuit (viewed s.seen))
