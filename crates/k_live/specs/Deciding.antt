-- What is decided of a property and k rounds (k-liveness; Claessen, Sörensson, 2012), and why nothing is.
use Rattle.std.specs.Prelude.{◌≡◌, ℕ}
use Rattle.aig_semantics.specs.Circuits.{Circuit}
use Rattle.aig_semantics.specs.Runs.{IsInitialRun}
use Rattle.edge.specs.Units.{Spendings}
use Rattle.edge.specs.Ends.{IsSpent}
use Rattle.fair_semantics.specs.Rounds.{HasRounds}
use Rattle.round_monitor.specs.Counting.{HasRunOfRounds}
use Rattle.round_monitor.specs.Ends.{IsMonitorable, IsTooLarge}
use Rattle.round_monitor.specs.Numbers.{sizes_of, greatest}
use Rattle.round_answers.specs.declared.rounds.KnownRounds.{KnownRounds}
use Rattle.round_answers.specs.declared.rounds.KnownRounds.TheVariants.{Fewer, Reached}
use Rattle.k_live.specs.declared.ends.RoundsEnd.{RoundsEnd}
use Rattle.k_live.specs.declared.ends.RoundsEnd.TheVariants.{Unsettled, TooLarge, Memory}

-- An initial run that has k rounds; or none has.
abbrev pub Settles : Circuit → ℕ → ℕ → KnownRounds → Type 0
Settles c j k (Reached run) = IsInitialRun c run × HasRounds c j k run
Settles c j k (Fewer entries refutation) = HasRunOfRounds c j k → ⊥

-- why a search decides nothing
abbrev pub EndsSearch : Spendings → RoundsEnd → Type 0
EndsSearch meter (Unsettled spending) = (spending ≡ meter) × IsSpent meter
EndsSearch meter (TooLarge n) = ⊥
EndsSearch meter Memory = Unit {0}

-- why nothing is decided; only where there is a monitor a budget is spent or memory is wanted
abbrev pub SettlesNothing : Circuit → ℕ → ℕ → Spendings → RoundsEnd → Type 0
SettlesNothing c j k meter (Unsettled spending) = (spending ≡ meter) × IsSpent meter × IsMonitorable c j k
SettlesNothing c j k meter (TooLarge n) = (n ≡ greatest (sizes_of c j k)) × IsTooLarge c j k
SettlesNothing c j k meter Memory = IsMonitorable c j k
