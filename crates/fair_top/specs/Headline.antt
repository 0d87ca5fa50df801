-- What a run of the program answers, writes and reads, whatever its commands are.
use Rattle.std.specs.Prelude.{◌≡◌, ◌⊎◌, ℕ, false, List, [], Option}
use Rattle.edge.specs.Told.{IfTold}
use Rattle.edge.specs.Faults.{Rose}
use Rattle.edge.specs.Reads.{ReadsOf}
use Rattle.edge.specs.Writes.{Adds, AddsPart}
use Rattle.sheet_answers.specs.declared.ends.Judged.{Judged}
use Rattle.plain_commands.specs.declared.status.Status.{Status}
use Rattle.plain_commands.specs.declared.status.Status.TheVariants as statuses
use Rattle.plain_commands.specs.ModelTexts.{OfModel}
use Rattle.plain_commands.specs.Check.{done_by}
use Rattle.command_lines.specs.declared.commands.solving.SolveRequest.{SolveRequest}
use Rattle.command_lines.specs.Commands.{Request, Solve, names_in, usage_text}
use Rattle.command_lines.specs.Asking.{AsksFor, IsUsage}
use Rattle.fair_top.specs.Solve.{HasProperty}
use Rattle.fair_top.specs.Commands.{CommandGives, Decides, ShownBy}
use Rattle.plain_commands.specs.Statuses.{is_read_fault}
use Rattle.plain_commands.specs.Answering.{FailedOf, IsSilent, ReadsModelFirst}

-- What the words ask for.

-- nothing is read for the words
abbrev pub ReadsNothing : List (List ℕ) → Type 0
ReadsNothing words = IsUsage words ⊎ ((asked : Request) × AsksFor words asked × (names_in asked ≡ []))

-- How a run ends.

-- the status and the text with which a run ends that is not cut short: of words that are no command, or what the
-- command gives
abbrev pub Ends : (List ℕ → Option (List ℕ)) → List (List ℕ) → Status → List ℕ → Type 0
Ends held words status text =
    (IsUsage words × (status ≡ statuses.Usage) × (text ≡ usage_text))
    ⊎ ((asked : Request) × AsksFor words asked × CommandGives held asked status text)

-- the status is right: with some text a run ends so; or it ends without one; or a write failed, and with another status and a text
-- it would have ended so
abbrev pub IsRight : (List ℕ → Option (List ℕ)) → List (List ℕ) → Status → Type 0
IsRight held words status =
    ((text : List ℕ) × Ends held words status text)
    ⊎ (IsSilent status ⊎ ((status ≡ statuses.WriteFault) × (meant : Status) × (text : List ℕ) × Ends held words meant text))

-- what a sink has taken: the text of the end, of which a failed write leaves a part; or nothing
abbrev pub HasTakenText : (List ℕ → Option (List ℕ)) → List (List ℕ) → Option (List ℕ) → Option (List ℕ) → Status → Type 0
HasTakenText held words old new status =
    ((text : List ℕ) × Ends held words status text × Adds old new text)
    ⊎ ((IsSilent status × (new ≡ old))
    ⊎ ((status ≡ statuses.WriteFault) × (meant : Status) × (text : List ℕ) × Ends held words meant text × AddsPart old new text))

-- What is decided once.

-- the status is the only right one
abbrev pub IsVerdict : (List ℕ → Option (List ℕ)) → List (List ℕ) → Status → Type 0
IsVerdict held words verdict =
    (IsUsage words × (verdict ≡ statuses.Usage)) ⊎ ((asked : Request) × AsksFor words asked × Decides held asked verdict)

-- What is true.

-- where the status is that of an accepted or a printed answer, sheet or text about rounds, the words ask for its check or for
-- its search, and what it shows is true
abbrev pub HoldsAsShown : (List ℕ → Option (List ℕ)) → List (List ℕ) → Status → Type 0
HoldsAsShown held words status =
    (accepted : Judged) → status ≡ statuses.Done (done_by accepted)
    → (asked : Request) × AsksFor words asked × ShownBy held asked accepted

-- What a run reads.

-- reads failed of MODEL, or it is the text of a model that has what is asked for, where it is told
abbrev pub FailedFor : (List ℕ → Option (List ℕ)) → List ℕ → SolveRequest → (List ℕ → ℕ) → (List ℕ → ℕ) → Type 0
FailedFor held model request before now =
    Rose (before model) (now model) ⊎ IfTold (held model) (λ text. OfModel text (λ c. HasProperty c request))

-- the answer that is named for a search is read only where the model has what is asked for
abbrev pub MayHaveFailed : (List ℕ → Option (List ℕ)) → Request → (List ℕ → ℕ) → (List ℕ → ℕ) → Type 0
MayHaveFailed held (Solve model request resume) before now = FailedFor held model request before now
MayHaveFailed held _ before now = Unit {0}

abbrev pub ReadFailed : (List ℕ → Option (List ℕ)) → List (List ℕ) → (List ℕ → ℕ) → (List ℕ → ℕ) → Type 0
ReadFailed held words before now =
    (asked : Request) × AsksFor words asked × FailedOf held (names_in asked) before now × MayHaveFailed held asked before now

-- Which reads lead from one state of a shelf to another, where `Read old name from room failed new` says that one read does.
-- A failed read is the last one.

-- the reads of a run: none for words that are no command, and else those of what they ask for. Exactly where one
-- failed the status says so.
abbrev pub HasRead : {Shelf : Type 0} → ReadsOf Shelf → (List ℕ → Option (List ℕ)) → List (List ℕ) → Status → Shelf → Shelf → Type 0
HasRead Read held words status old new =
    (IsUsage words × (new ≡ old) × (is_read_fault status ≡ false))
    ⊎ ((asked : Request) × AsksFor words asked × ReadsModelFirst Read held (names_in asked) (is_read_fault status) old new)
