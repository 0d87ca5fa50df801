-- The command `rounds MODEL K [--property N] [--conflicts C] [--steps S]`: what it gives. After k-liveness (Claessen, Sörensson,
-- A Liveness Checking Algorithm that Counts, FMCAD 2012).
use Rattle.std.specs.Prelude.{◌≡◌, ◌⊎◌, ◌≤◌, ℕ, Bool, List, length, Option}
use Rattle.aig_semantics.specs.Circuits.{Circuit}
use Rattle.edge.specs.Units.{Spendings, limit_of}
use Rattle.edge.specs.Ends.{IsSpent}
use Rattle.round_monitor.specs.Numbers.{sizes_of, greatest}
use Rattle.round_monitor.specs.Ends.{IsMonitorable, IsTooLarge}
use Rattle.sheet_answers.specs.declared.ends.Judged.{Judged}
use Rattle.round_answers.specs.Answers.{IsGoodAbout, ShowsRounds}
use Rattle.command_lines.specs.declared.commands.counting.RoundsRequest.{RoundsRequest}
use Rattle.plain_commands.specs.declared.status.Status.{Status}
use Rattle.plain_commands.specs.declared.status.Status.TheVariants as statuses
use Rattle.plain_commands.specs.declared.status.Done.TheVariants as done
use Rattle.plain_commands.specs.ModelTexts.{OfModel}
use Rattle.plain_commands.specs.ModelGiven.{OfText, OfSomeText, SaysBadModel}
use Rattle.plain_commands.specs.Check.{ShownByCheck}
use Rattle.plain_commands.specs.Texts.{text_of}

-- the property is not there, or its monitor would be too large, and the status says so
abbrev pub SaysNoMonitor : Circuit → RoundsRequest → Status → Type 0
SaysNoMonitor c request status =
    ((status ≡ statuses.NoProperty request.property) × (length c.justice ≤ request.property))
    ⊎ ((status ≡ statuses.TooLarge (greatest (sizes_of c request.property request.k))) × IsTooLarge c request.property request.k)

-- The text is a good one about so many rounds of the property, fewer or reached, the status says what `check` says of it, and
-- that is true: no initial run has so many, or one has.
abbrev pub PrintsRounds : Circuit → RoundsRequest → Status → List ℕ → Type 0
PrintsRounds c request status text =
    (reached : Bool) × (status ≡ statuses.Done (done.Rounds request.property request.k reached))
    × IsGoodAbout c text request.property request.k reached × ShowsRounds c request.property request.k reached

-- The status carries what one search of the property's monitor has spent: the count of conflicts or that of steps is at the
-- limit that is asked for.
abbrev pub SaysOpen : Circuit → RoundsRequest → Status → Type 0
SaysOpen c request status =
    (spent : Spendings) × (status ≡ statuses.OpenRounds request.property spent) × IsMonitorable c request.property request.k
    × (spent.conflict_limit ≡ limit_of request.conflicts) × (spent.step_limit ≡ limit_of request.steps) × IsSpent spent

abbrev pub EndsRounds : Circuit → RoundsRequest → Status → List ℕ → Type 0
EndsRounds c request status text =
    (SaysNoMonitor c request status × (text ≡ text_of status))
    ⊎ (PrintsRounds c request status text ⊎ (SaysOpen c request status × (text ≡ text_of status)))

-- What is so of the text that the shelf tells where `rounds` ends with this status, and writes this text: MODEL is bad; or it
-- is a model's, and of its circuit it is so. There is no other status.
abbrev pub GivesRounds : Option (List ℕ) → RoundsRequest → Status → List ℕ → Type 0
GivesRounds model request status text =
    (SaysBadModel OfSomeText model status × (text ≡ text_of status))
    ⊎ OfSomeText model (λ bytes. OfModel bytes (λ c. EndsRounds c request status text))

-- the status that the text decides, where it is told: MODEL is bad, or has no such property, or none with a monitor
abbrev pub DecidesRounds : Option (List ℕ) → RoundsRequest → Status → Type 0
DecidesRounds model request status =
    SaysBadModel OfText model status ⊎ OfText model (λ bytes. OfModel bytes (λ c. SaysNoMonitor c request status))

-- what is true where `rounds` prints a text, as where `check` accepts it
abbrev pub ShownByRounds : Option (List ℕ) → Judged → Type 0
ShownByRounds model found = ShownByCheck model found
