-- The command `shortest MODEL [--property N] [--conflicts C] [--depth D]`: what it gives. The search is bounded model checking
-- (Biere, Cimatti, Clarke, Zhu, 1999).
use Rattle.std.specs.Prelude.{◌≡◌, ◌⊎◌, ◌≤◌, ◌<◌, ℕ, List, length, Option, Some}
use Rattle.aig_semantics.specs.declared.traces.Position.{Position}
use Rattle.aig_semantics.specs.Circuits.{Circuit}
use Rattle.aig_semantics.specs.Runs.{IsFairLasso}
use Rattle.edge.specs.Units.{Spendings, limit_of}
use Rattle.certificate.specs.declared.ends.Accepted.TheVariants as accepted
use Rattle.certificate.specs.Answers.{IsGood, Shows}
use Rattle.sheet_answers.specs.declared.ends.Judged.{Judged}
use Rattle.lasso_bmc.specs.Searching.{HasNoneWithin}
use Rattle.command_lines.specs.declared.commands.bounding.ShortestRequest.{ShortestRequest}
use Rattle.plain_commands.specs.declared.status.Status.{Status}
use Rattle.plain_commands.specs.declared.status.Status.TheVariants as statuses
use Rattle.plain_commands.specs.declared.status.Done.TheVariants as done
use Rattle.plain_commands.specs.ModelTexts.{OfModel}
use Rattle.plain_commands.specs.ModelGiven.{OfText, OfSomeText, SaysBadModel}
use Rattle.plain_commands.specs.Check.{ShownByCheck}
use Rattle.plain_commands.specs.Spelled.{IsWrittenAs}
use Rattle.plain_commands.specs.Texts.{text_of, depth_text}

-- the circuit has no such property, and the status says so
abbrev pub SaysNoSuch : Circuit → ShortestRequest → Status → Type 0
SaysNoSuch c request status = (status ≡ statuses.NoProperty request.property) × (length c.justice ≤ request.property)

-- each fair lasso of property j has at least n positions
abbrev pub IsFewest : Circuit → ℕ → ℕ → Type 0
IsFewest c j n = (run : List Position) (from : ℕ) → IsFairLasso c j run from → n ≤ length run

-- The text is a good answer with the stimulus of a fair lasso of the property, spelled as `solve` writes it, the status says
-- what `check` says of it, and that is true; and no fair lasso of the property has fewer positions.
abbrev pub PrintsShortest : Circuit → ShortestRequest → Status → List ℕ → Type 0
PrintsShortest c request status text =
    (positions : ℕ) × (from : ℕ) × (status ≡ statuses.Done (done.Lasso request.property positions from))
    × IsGood c text (accepted.Lasso request.property positions from) × IsWrittenAs c text (accepted.Lasso request.property positions from)
    × Shows c (accepted.Lasso request.property positions from) × IsFewest c request.property positions × (positions ≤ request.depth)

-- no fair lasso of the property has at most as many positions as were asked for, and the status says so
abbrev pub SaysNoneWithin : Circuit → ShortestRequest → Status → Type 0
SaysNoneWithin c request status =
    (status ≡ statuses.Done (done.NoneWithin request.property request.depth)) × (request.property < length c.justice)
    × HasNoneWithin c request.property request.depth

-- The status carries what the search has spent: the count of conflicts is at the limit that is asked for; and no fair lasso of
-- the property has at most so many positions.
abbrev pub SaysOpenDepth : Circuit → ShortestRequest → Status → List ℕ → Type 0
SaysOpenDepth c request status text =
    (most : ℕ) × (spent : Spendings) × (status ≡ statuses.OpenDepth most spent) × (text ≡ depth_text request.property most request.depth spent)
    × (request.property < length c.justice) × (spent.conflict_limit ≡ limit_of request.conflicts)
    × (spent.conflict_limit ≡ Some spent.conflicts) × (most < request.depth) × HasNoneWithin c request.property most

abbrev pub EndsShortest : Circuit → ShortestRequest → Status → List ℕ → Type 0
EndsShortest c request status text =
    (SaysNoSuch c request status × (text ≡ text_of status))
    ⊎ (PrintsShortest c request status text
    ⊎ ((SaysNoneWithin c request status × (text ≡ text_of status)) ⊎ SaysOpenDepth c request status text))

-- What is so of the text that the shelf tells where `shortest` ends with this status, and writes this text: MODEL is bad; or it
-- is a model's, and of its circuit it is so. There is no other status.
abbrev pub GivesShortest : Option (List ℕ) → ShortestRequest → Status → List ℕ → Type 0
GivesShortest model request status text =
    (SaysBadModel OfSomeText model status × (text ≡ text_of status))
    ⊎ OfSomeText model (λ bytes. OfModel bytes (λ c. EndsShortest c request status text))

-- the status that the text decides, where it is told: MODEL is bad, or has no such property
abbrev pub DecidesShortest : Option (List ℕ) → ShortestRequest → Status → Type 0
DecidesShortest model request status =
    SaysBadModel OfText model status ⊎ OfText model (λ bytes. OfModel bytes (λ c. SaysNoSuch c request status))

-- what is true where `shortest` prints an answer, as where `check` accepts it
abbrev pub ShownByShortest : Option (List ℕ) → Judged → Type 0
ShownByShortest model found = ShownByCheck model found
