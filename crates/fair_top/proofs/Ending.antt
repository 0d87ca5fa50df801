-- How a run ends, from what is asked for and from what its command gives.
use Rattle.std.proofs.Common.{◌≡◌, ◌⊎◌, inl, inr, ℕ, Bool, true, false, List, [], ◌∷◌, refl, sym, ◌∙◌, ap, subst, Ok, Err}
use Rattle.std.proofs.lemmas.Bool.{true≢false}
use Rattle.std.specs.Prelude.{Option, Result, IfOk}
use Rattle.edge.specs.Reads.{ReadsOf}
use Rattle.edge.specs.Writes.{Adds, AddsPart, Writes}
use Rattle.command_lines.specs.declared.commands.generating.GenRequest.{GenRequest}
use Rattle.plain_commands.specs.declared.status.Status.{Status}
use Rattle.plain_commands.specs.declared.status.Status.TheVariants as statuses
use Rattle.plain_commands.specs.declared.status.Done.TheVariants.{Printed}
use Rattle.command_lines.specs.declared.commands.demonstrating.DemoRequest.{DemoRequest}
use Rattle.fair_top.specs.Demo.{GivesDemo, IsSummedUp, demo_circuit}
use Rattle.fair_top.specs.Solved.{SolvesAsked}
use Rattle.plain_commands.specs.ModelGiven.{OfSomeText}
use Rattle.plain_commands.specs.Check.{JudgesAs, GivesCheck}
use Rattle.command_lines.specs.Commands.{Request, Gen, Demo, names_in}
use Rattle.fair_top.specs.Commands.{CommandGives, Decides}
use Rattle.command_lines.specs.Asking.{AsksFor, IsUsage, IsTakenOrUsage}
use Rattle.fair_top.specs.Headline.{Ends, IsVerdict, HasTakenText, ReadFailed, HasRead}
use Rattle.plain_commands.specs.Answering.{GivesVerdict, IsSilent, HasWritten, FailedOf, ReadsModelFirst}
use Rattle.plain_commands.specs.Statuses.{is_read_fault, ends_silently}
use Rattle.plain_commands.specs.Texts.{text_of}
use Rattle.plain_commands.specs.declared.texts.Ending.{Ending}
use Rattle.unless_memory.specs.Answers.{GivesSome}
use Rattle.fair_top.proofs.EachCommand.{memory_solves, of_command}
use Rattle.fair_top.proofs.Summed.{sums_up}
use Rattle.fair_top.proofs.Decided.{silent_aloud}
use Rattle.command_lines.proofs.Taken.{one_asked, not_usage}

-- what is decided for what is asked for is decided for the words
pub exact_for : (held : List ℕ → Option (List ℕ)) (words : List (List ℕ)) (asked : Request) (result : Status) → AsksFor words asked
    → ((verdict : Status) → Decides held asked verdict → GivesVerdict verdict result)
    → (verdict : Status) → IsVerdict held words verdict → GivesVerdict verdict result
exact_for held words asked result asks exact verdict (inl usage) = absurd (not_usage words asked asks usage.0)
exact_for held words asked result asks exact verdict (inr (other, others, d)) =
    exact verdict (subst (λ (a : Request). Decides held a verdict) (one_asked words other asked others asks) d)

-- another status in the place of one that is answered: that status, or want of memory
pub still_answered : (verdict status result : Status) → (result ≡ status) ⊎ (result ≡ statuses.Memory) → GivesVerdict verdict status → GivesVerdict verdict result
still_answered verdict status result (inl same) h = subst (λ (s : Status). GivesVerdict verdict s) (sym same) h
still_answered verdict status result (inr memory) h = inr memory

-- words that are no command
pub usage_exact : (held : List ℕ → Option (List ℕ)) (words : List (List ℕ)) (verdict : Status) → IsUsage words → IsVerdict held words verdict → GivesVerdict verdict statuses.Usage
usage_exact held words verdict usage (inl (_, e)) = inl (inl (inl (sym e)))
usage_exact held words verdict usage (inr (asked, asks, d)) = absurd (not_usage words asked asks usage)

-- `gen` is answered with its model
pub is_printed : (held : List ℕ → Option (List ℕ)) (words : List (List ℕ)) (before now : List ℕ → ℕ) (request : GenRequest) (status : Status)
    → AsksFor words (Gen request) → ((verdict : Status) → IsVerdict held words verdict → GivesVerdict verdict status)
    → (status ≡ statuses.ReadFault → ReadFailed held words before now)
    → (status ≡ statuses.Done Printed) ⊎ ((status ≡ statuses.Memory) ⊎ (status ≡ statuses.WriteFault))
is_printed held words before now request status asks exact read = by (exact (statuses.Done Printed) (inr (Gen request, asks, refl)))
  where
    unread : ReadFailed held words before now → ⊥
    unread (other, others, failed, there) = subst (λ (a : Request). FailedOf held (names_in a) before now) (one_asked words other (Gen request) others asks) failed

    by : GivesVerdict (statuses.Done Printed) status → (status ≡ statuses.Done Printed) ⊎ ((status ≡ statuses.Memory) ⊎ (status ≡ statuses.WriteFault))
    by (inl (inl (inl e))) = inl e
    by (inl (inl (inr (v, w, e, wrong)))) = absurd (cc)
    by (inl (inr (inl e))) = absurd (unread (read e))
    by (inl (inr (inr e))) = inr (inr e)
    by (inr e) = inr (inl e)

-- a run of refused words ends with the usage text, or silently
pub refused_ends : (held : List ℕ → Option (List ℕ)) (words : List (List ℕ)) (status : Status) (result : Result Ending Status)
    → ((status ≡ statuses.Usage) × IsUsage words) ⊎ (status ≡ statuses.Memory)
    → IfOk result (λ ending. (ending.status ≡ status) × (ending.text.items ≡ text_of status)) → IfOk result (λ ending. ends_silently status ≡ false)
    → IfOk result (λ ending. Ends held words ending.status ending.text.items)
refused_ends held words status (Err other) ended text aloud = tt
refused_ends held words status (Ok ending) (inl usage) text aloud = inl (usage.1, text.0 ∙ usage.0, text.1 ∙ ap text_of usage.0)
refused_ends held words status (Ok ending) (inr memory) text aloud = let wrong : true ≡ false = sym (ap ends_silently memory) ∙ aloud in absurd (cc)

-- `solve` is answered with a verdict or a report

pub solves_for : (held : List ℕ → Option (List ℕ)) (words : List (List ℕ)) (asked : Request) (result : Status) → AsksFor words asked → SolvesAsked held asked result
    → (other : Request) → AsksFor words other → SolvesAsked held other result
solves_for held words asked result asks solves other others =
    subst (λ (a : Request). SolvesAsked held a result) (one_asked words asked other asks others) solves

-- words that ask for something are refused for want of memory alone
pub unsolved : (held : List ℕ → Option (List ℕ)) (words : List (List ℕ)) (status result : Status)
    → ((status ≡ statuses.Usage) × IsUsage words) ⊎ (status ≡ statuses.Memory) → (result ≡ status) ⊎ (result ≡ statuses.Memory)
    → (asked : Request) → AsksFor words asked → SolvesAsked held asked result
unsolved held words status result (inl usage) same asked asks = absurd (not_usage words asked asks usage.1)
unsolved held words status result (inr e) (inl same) asked asks = memory_solves held asked result (same ∙ e)
unsolved held words status result (inr e) (inr memory) asked asks = memory_solves held asked result memory

-- `demo` is answered with a board or a report

pub demo_sums_up : (held : List ℕ → Option (List ℕ)) (words : List (List ℕ)) (request : DemoRequest) (status : Status) (text : List ℕ)
    → AsksFor words (Demo request) → Ends held words status text → GivesSome statuses.Memory (λ end. IsSummedUp end ⊎ (end ≡ statuses.WriteFault)) status
demo_sums_up held words request status text asks (inl (usage, _, _)) = absurd (not_usage words (Demo request) asks usage)
demo_sums_up held words request status text asks (inr (other, others, gives)) =
    let summed : GivesDemo request status text = subst (λ (a : Request). CommandGives held a status text) (one_asked words other (Demo request) others asks) gives in
    inl (inl (sums_up (demo_circuit request) request status text summed))

pub demo_is_silent : (held : List ℕ → Option (List ℕ)) (words : List (List ℕ)) (before now : List ℕ → ℕ) (request : DemoRequest) (status : Status)
    → AsksFor words (Demo request) → IsSilent status → (status ≡ statuses.ReadFault → ReadFailed held words before now)
    → GivesSome statuses.Memory (λ end. IsSummedUp end ⊎ (end ≡ statuses.WriteFault)) status
demo_is_silent held words before now request status asks (inl e) read = absurd (unread (read e))
  where
    unread : ReadFailed held words before now → ⊥
    unread (other, others, failed, there) = subst (λ (a : Request). FailedOf held (names_in a) before now) (one_asked words other (Demo request) others asks) failed
demo_is_silent held words before now request status asks (inr e) read = inr e

-- no read failed where the text of the end was not written whole
pub read_before : {Shelf : Type 0} (Read : ReadsOf Shelf) (held : List ℕ → Option (List ℕ)) (words : List (List ℕ)) (status : Status) (old new : Shelf)
    → is_read_fault status ≡ false → HasRead Read held words status old new → HasRead Read held words statuses.WriteFault old new
read_before Read held words status old new none (inl (usage, same, e)) = inl (usage, same, refl)
read_before Read held words status old new none (inr (asked, asks, reads)) =
    inr (asked, asks, subst (λ (failed : Bool). ReadsModelFirst Read held (names_in asked) failed old new) none reads)

-- where words are refused, or memory is, nothing was read
none_of : {Shelf : Type 0} (Read : ReadsOf Shelf) (held : List ℕ → Option (List ℕ)) (names : List (List ℕ)) (old : Shelf)
    → ReadsModelFirst Read held names false old old
none_of Read held [] old = (refl, refl)
none_of Read held (model ∷ others) old = inl (0, refl)

pub nothing_read : {Shelf : Type 0} (Read : ReadsOf Shelf) (held : List ℕ → Option (List ℕ)) (words : List (List ℕ)) (status : Status) (old : Shelf)
    → IsTakenOrUsage words → is_read_fault status ≡ false → HasRead Read held words status old old
nothing_read Read held words status old (inl usage) none = inl (usage, refl, none)
nothing_read Read held words status old (inr (asked, asks)) none =
    inr (asked, asks, subst (λ (failed : Bool). ReadsModelFirst Read held (names_in asked) failed old old) (sym none) (none_of Read held (names_in asked) old))

pub not_a_read : (words : List (List ℕ)) (status : Status) → ((status ≡ statuses.Usage) × IsUsage words) ⊎ (status ≡ statuses.Memory) → is_read_fault status ≡ false
not_a_read words status (inl usage) = ap is_read_fault usage.0
not_a_read words status (inr memory) = ap is_read_fault memory

-- What the sink took.

pub written : (held : List ℕ → Option (List ℕ)) (words : List (List ℕ)) (old new : Option (List ℕ)) (status : Status) (text bytes : List ℕ)
    → bytes ≡ text → Ends held words status text → Adds old new bytes → HasTakenText held words old new status
written held words old new status text bytes same ends adds = inl (text, ends, subst (λ (b : List ℕ). Adds old new b) same adds)

pub part_written : (held : List ℕ → Option (List ℕ)) (words : List (List ℕ)) (old new : Option (List ℕ)) (status : Status) (text bytes : List ℕ)
    → bytes ≡ text → Ends held words status text → AddsPart old new bytes → HasTakenText held words old new statuses.WriteFault
part_written held words old new status text bytes same ends part =
    inr (inr (refl, status, text, ends, subst (λ (b : List ℕ). AddsPart old new b) same part))

-- The writes that the sink saw.

-- a status with a text is answered after good writes
pub good_writes : {Sink : Type 0} (Write : Sink → Bool → Sink → Type 0) (held : List ℕ → Option (List ℕ)) (words : List (List ℕ))
    (status : Status) (text : List ℕ) (old new : Sink) → Ends held words status text → Writes Write false old new → HasWritten Write status old new
good_writes Write held words status text old new (inl (usage, e, same)) writes =
    subst (λ (s : Status). HasWritten Write s old new) (sym e) writes
good_writes Write held words status text old new (inr (asked, asks, gives)) writes =
    of_command Write held asked status text old new gives writes

-- a run that ends silently writes nothing
pub silent_writes : {Sink : Type 0} (Write : Sink → Bool → Sink → Type 0) (status : Status) (old new : Sink) → HasWritten Write status old new → IsSilent status → new ≡ old
silent_writes Write status old new h (inl e) = subst (λ (s : Status). HasWritten Write s old new) e h
silent_writes Write status old new h (inr e) = subst (λ (s : Status). HasWritten Write s old new) e h

abbrev Never : ℕ → Bool → ℕ → Type 0
Never old failed new = failed ≡ false

never_fails : Writes Never true 0 0 → ⊥
never_fails (n, last, before, wrong) = true≢false wrong

-- no run ends with a failed write by itself
pub not_a_write : (held : List ℕ → Option (List ℕ)) (words : List (List ℕ)) (status : Status) (text : List ℕ) → Ends held words status text → status ≡ statuses.WriteFault → ⊥
not_a_write held words status text ends e =
    never_fails (subst (λ (s : Status). HasWritten Never s 0 0) e (good_writes Never held words status text 0 0 ends (0, refl)))

-- What `check` gives.

pub check_gives : (model answer : Option (List ℕ)) (status : Status) (result : Result Ending Status) → JudgesAs OfSomeText model answer status ⊎ IsSilent status
    → IfOk result (λ ending. (ending.status ≡ status) × (ending.text.items ≡ text_of status)) → IfOk result (λ ending. ends_silently status ≡ false)
    → IfOk result (λ ending. GivesCheck model answer ending.status ending.text.items)
check_gives model answer status (Err other) says text aloud = tt
check_gives model answer status (Ok ending) (inl says) text aloud =
    (subst (λ (s : Status). JudgesAs OfSomeText model answer s) (sym text.0) says, text.1 ∙ sym (ap text_of text.0))
check_gives model answer status (Ok ending) (inr silent) text aloud = absurd (silent_aloud status silent aloud)

-- a failed read that is written is that of the status
pub read_of_status : (status result : Status) → (result ≡ status) ⊎ (result ≡ statuses.Memory) → result ≡ statuses.ReadFault → status ≡ statuses.ReadFault
read_of_status status result (inl same) e = sym same ∙ e
read_of_status status result (inr memory) e = let wrong : statuses.Memory ≡ statuses.ReadFault = sym memory ∙ e in absurd (cc wrong)
