-- The law of entries that refute states.
use Rattle.std.specs.Prelude.{List}
use Rattle.aig_semantics.specs.Circuits.{Circuit}
use Rattle.entry.specs.declared.entries.Entry.{Entry as WithProofs}
use Rattle.entry.specs.declared.refutations.Refutation.{Refutation}
use Rattle.round_monitor.specs.Counting.{HasFullRun}
use Rattle.round_answers.specs.Writing.{AreFull}

-- Where such entries and such a refutation stand, no initial run comes, behind its last position, to a state in which the last
-- latch is true.
abbrev pub RefutesFullRuns : Circuit → Type 0
RefutesFullRuns t = (entries : List WithProofs) (refutation : Refutation) → AreFull t entries refutation → HasFullRun t → ⊥
