-- There are replays of all stimuli.
use Rattle.std.proofs.Common.{ℕ, inl, inr, Option, Some, None}
use Rattle.aig_semantics.specs.declared.traces.Stimulus.{Stimulus}
use Rattle.aig_semantics.specs.Circuits.{Circuit}
use Rattle.stimulus.specs.declared.ends.ReplayFault.{ReplayFault}
use Rattle.certificate.proofs.EachEnd.{StandsOrFails, stands_or_fails}
use Rattle.sheet_answers.specs.Reading.{Replays}
use Rattle.sheet_answers.specs.Ends.{IsReplayed, AreReplays}

verdict : (c : Circuit) (n : ℕ) (s : Stimulus) → StandsOrFails c n s → Option ReplayFault
verdict c n s (inl stands) = None
verdict c n s (inr fails) = Some fails.0

is_verdict : (c : Circuit) (n : ℕ) (s : Stimulus) (h : StandsOrFails c n s) → IsReplayed c n s (verdict c n s h)
unfolding verdict
is_verdict c n s (inl (k, from, stands)) = (k, from, stands)
is_verdict c n s (inr (fault, has)) = has

pub replays_of : Circuit → Replays
replays_of c n s = verdict c n s (stands_or_fails c n s)

pub are_replays : (c : Circuit) → AreReplays c (replays_of c)
unfolding replays_of verdict
are_replays c n s = is_verdict c n s (stands_or_fails c n s)
