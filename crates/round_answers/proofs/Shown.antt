-- What an accepted text about rounds shows.
use Rattle.std.proofs.Common.{◌≡◌, ℕ, inl, inr, true, false, List, Option, Some, None, Result, Ok, Err}
use Rattle.std.specs.Prelude.{IfOk}
use Rattle.aig_semantics.specs.Circuits.{Circuit}
use Rattle.aig_semantics.specs.Stimuli.{simulated}
use Rattle.unless_memory.specs.Answers.{GivesSome}
use Rattle.round_answers.specs.declared.ends.Judged.{Judged}
use Rattle.round_answers.specs.declared.ends.Judged.TheVariants.{Answer as Answered, Rounds}
use Rattle.round_answers.specs.declared.ends.JudgeEnd.{JudgeEnd}
use Rattle.round_answers.specs.Answers.{IsGoodText, ShowsText}
use Rattle.round_answers.specs.Ends.{ReadsAs, no_memory}
use Rattle.round_answers.specs.First.{is_about, TellsText, KnowsOf, as_told}
use Rattle.round_answers.specs.Telling.{KnowsMonitor}
use Rattle.round_answers.proofs.GoodTexts.{decided, no_answer}
use Rattle.round_answers.proofs.True.{fewer_true}

good_shows : (c : Circuit) (text : List ℕ) (judged : Judged) → is_about text ≡ true → KnowsMonitor c judged → IsGoodText c text judged → ShowsText c judged
good_shows c text (Answered accepted) about knows good = absurd (no_answer c text accepted about good)
good_shows c text (Rounds n k true) about knows (may, able, short, stimulus, spelled, reached) =
    (simulated c stimulus.latches stimulus.inputs, reached.run, reached.rounds)
good_shows c text (Rounds n k false) about (asked, tells) (may, able, short, certificate, spelled, fewer) = fewer_true c k n certificate tells fewer

pub told_shows : (c : Circuit) (held : Option (List ℕ)) (judged : Judged) → TellsText c held (Ok (Some judged)) → KnowsMonitor c judged → ShowsText c judged
told_shows c held judged (text, may, about, decides) knows = by decides.found
  where
    by : GivesSome no_memory (ReadsAs c text) (Ok judged) → ShowsText c judged
    by (inl reads) = good_shows c text judged about knows (decided c text (Ok judged) about reads)
    by (inr none) = absurd (cc none)

pub all_shows : (c : Circuit) (held : Option (List ℕ)) (r : Result (Option Judged) JudgeEnd) → TellsText c held r → IfOk r (KnowsOf c) → IfOk (as_told r) (ShowsText c)
all_shows c held (Ok (Some judged)) told knows = told_shows c held judged told knows
all_shows c held (Ok None) told knows = tt
all_shows c held (Err end) told knows = tt
