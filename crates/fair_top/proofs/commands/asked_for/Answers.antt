use Rattle.std.proofs.Common.{◌≡◌, ◌⊎◌, List, ℕ, refl, inl, inr}
use Rattle.command_lines.specs.Words.{bytes_of}
use Rattle.command_lines.specs.Asking.{IsUsage}
use Rattle.command_lines.specs.declared.commands.WordsEnd.TheVariants as ends
use Rattle.plain_commands.specs.declared.status.Status.TheVariants as statuses
use Rattle.fair_top.proofs.commands.asked_for.Goals as goal

-- the status for words that are no command
usage_told : (words : List (List ℕ)) → ((ends.Usage ≡ ends.Usage) × IsUsage words) ⊎ (ends.Usage ≡ ends.Memory)
    → ((statuses.Usage ≡ statuses.Usage) × IsUsage words) ⊎ (statuses.Usage ≡ statuses.Memory)
usage_told words (inl told) = inl (refl, told.1)
usage_told words (inr wrong) = absurd (let no : ends.Usage ≡ ends.Memory = wrong in cc)

pub returns-in-Err-Usage-clause-ended : goal.returns-in-Err-Usage-clause-ended
returns-in-Err-Usage-clause-ended c =
    let facts = rw c.in-Err-Usage.field-0-is at c.in-Err-Usage.ensures in
    usage_told (bytes_of c.args.words.now) facts.ended
