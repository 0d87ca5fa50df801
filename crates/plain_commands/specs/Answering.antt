-- What a command answers, reads and writes, whatever it is.
use Rattle.std.specs.Prelude.{◌≡◌, ◌⊎◌, ◌+◌, ℕ, Bool, true, false, List, [], ◌∷◌, Option}
use Rattle.aig_semantics.specs.declared.limits.TheConstants.{MAX_MODEL_BYTES}
use Rattle.circuit.specs.declared.faults.ModelFault.TheVariants.{Cycle}
use Rattle.edge.specs.Told.{IfTold}
use Rattle.edge.specs.Faults.{Rose}
use Rattle.edge.specs.Reads.{ReadsOf, Within, Reads}
use Rattle.edge.specs.Writes.{Writes}
use Rattle.unless_memory.specs.Answers.{GivesSome}
use Rattle.plain_commands.specs.declared.status.Status.{Status}
use Rattle.plain_commands.specs.declared.status.Status.TheVariants as statuses
use Rattle.plain_commands.specs.ModelTexts.{OfModel}

-- How a run ends.

-- a run ends so without a text
abbrev pub IsSilent : Status → Type 0
IsSilent status = (status ≡ statuses.ReadFault) ⊎ (status ≡ statuses.Memory)

-- What is decided once.

-- The same status. A cycle may be said at any variable on one: each such status is right (`IsRight` of `fair_top`).
abbrev pub SameVerdict : Status → Status → Type 0
SameVerdict verdict status =
    (status ≡ verdict) ⊎ ((v : ℕ) × (w : ℕ) × (status ≡ statuses.BadModel (Cycle v)) × (verdict ≡ statuses.BadModel (Cycle w)))

-- a read or a write failed
abbrev pub IsCutShort : Status → Type 0
IsCutShort status = (status ≡ statuses.ReadFault) ⊎ (status ≡ statuses.WriteFault)

-- the verdict is given, unless memory is refused or a read or write fails
abbrev pub GivesVerdict : Status → Status → Type 0
GivesVerdict verdict result = GivesSome statuses.Memory (λ status. SameVerdict verdict status ⊎ IsCutShort status) result

-- What a run reads.

-- the shelf holds a model under the name, where it tells
abbrev pub HoldsModel : (List ℕ → Option (List ℕ)) → List ℕ → Type 0
HoldsModel held name = IfTold (held name) (λ text. OfModel text (λ c. Unit {0}))

-- reads failed of one of these names
abbrev pub FailedAmong : List (List ℕ) → (List ℕ → ℕ) → (List ℕ → ℕ) → Type 0
FailedAmong [] before now = ⊥
FailedAmong (name ∷ names) before now = Rose (before name) (now name) ⊎ FailedAmong names before now

-- reads failed of MODEL, or of another of these names where MODEL is a model's text
abbrev pub FailedOf : (List ℕ → Option (List ℕ)) → List (List ℕ) → (List ℕ → ℕ) → (List ℕ → ℕ) → Type 0
FailedOf held [] before now = ⊥
FailedOf held (model ∷ others) before now =
    Rose (before model) (now model) ⊎ (HoldsModel held model × FailedAmong others before now)

-- Which reads lead from one state of a shelf to another, where `Read old name from room failed new` says that one read does.
-- A failed read is the last one.

-- reads of the names, in this order
abbrev pub ReadsInTurn : {Shelf : Type 0} → ReadsOf Shelf → List (List ℕ) → Bool → Shelf → Shelf → Type 0
ReadsInTurn Read [] failed old new = (new ≡ old) × (failed ≡ false)
ReadsInTurn Read (name ∷ names) failed old new =
    Reads Read name failed old new ⊎ ((mid : _) × Reads Read name false old mid × ReadsInTurn Read names failed mid new)

-- reads of MODEL, none of which goes behind the limit on a model's text and one byte more
abbrev pub ReadsModel : {Shelf : Type 0} → ReadsOf Shelf → List ℕ → Bool → Shelf → Shelf → Type 0
ReadsModel Read model failed old new = Reads (Within (MAX_MODEL_BYTES + 1) Read) model failed old new

-- reads of MODEL, and of the others only where its text is a model's
abbrev pub ReadsModelFirst : {Shelf : Type 0} → ReadsOf Shelf → (List ℕ → Option (List ℕ)) → List (List ℕ) → Bool → Shelf → Shelf → Type 0
ReadsModelFirst Read held [] failed old new = (new ≡ old) × (failed ≡ false)
ReadsModelFirst Read held (model ∷ others) failed old new =
    ReadsModel Read model failed old new
    ⊎ ((mid : _) × ReadsModel Read model false old mid × HoldsModel held model × ReadsInTurn Read others failed mid new)

-- What a run writes.

-- the writes of a run, where `Write old failed new` says that one write does: none where a read failed or memory was
-- refused. A failed write is the last one, and exactly where there is one the status says so.
abbrev pub HasWritten : {Sink : Type 0} → (Sink → Bool → Sink → Type 0) → Status → Sink → Sink → Type 0
HasWritten Write statuses.ReadFault old new = new ≡ old
HasWritten Write statuses.Memory old new = new ≡ old
HasWritten Write statuses.WriteFault old new = Writes Write true old new
HasWritten Write _ old new = Writes Write false old new
