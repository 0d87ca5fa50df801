-- Scaffolding of inner functions: a run as it is laid out.
use Rattle.std.specs.Prelude.{◌≡◌, ℕ, ◌+◌, ◌<◌, Bool, true, false, List, length, take}
use Rattle.aig_semantics.specs.declared.traces.Position.{Position}
use Rattle.aig_semantics.specs.declared.traces.Stimulus.{Stimulus}
use Rattle.aig_semantics.specs.Circuits.{Circuit}
use Rattle.aig_semantics.specs.Stimuli.{simulated}
use Rattle.stimulus.specs.Faults.{AreAllowed}
use Rattle.round_answers.specs.Ends.{IsFirstForbidden}

-- these are all positions of the stimulus, and are allowed; or those before the first that is not
abbrev pub IsLaidOut : Circuit → Stimulus → List Position → Bool → Type 0
IsLaidOut c s run true = (run ≡ simulated c s.latches s.inputs) × AreAllowed c run
IsLaidOut c s run false = IsFirstForbidden c s (length run)
