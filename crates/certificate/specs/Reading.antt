-- The first fault of an answer, by its lines from the first on: what the next line has to be, and what each line makes of
-- that. The order of the tests is this program's own.
use Rattle.std.specs.Prelude.{ℕ, ◌+◌, Bool, true, false, ◌||◌, List, [], ◌∷◌, ◌++◌, map, length, take, Option, Some, None, Result, Ok, Err, codes, if◌then◌else◌, ◌==◌, nat_lt}
use Rattle.std.specs.List.{list_any}
use Rattle.std.specs.Str.{bytes_eq}
use Rattle.aig_semantics.specs.declared.traces.Stimulus.{Stimulus}
use Rattle.aig_semantics.specs.Circuits.{Circuit}
use Rattle.proof_semantics.specs.declared.literals.Lit.{Lit}
use Rattle.proof_semantics.specs.declared.faults.LratFault.{LratFault}
use Rattle.proof_semantics.specs.declared.faults.LratFault.TheVariants.{Unfinished}
use Rattle.proof_semantics.specs.Clauses.{has_literal}
use Rattle.proof_semantics.specs.Proofs.{ProofState, start, judge}
use Rattle.fair_semantics.specs.declared.entries.Kind.{Kind}
use Rattle.fair_semantics.specs.declared.entries.Kind.TheVariants.{Reach, Wall}
use Rattle.fair_semantics.specs.declared.entries.Use.{Use}
use Rattle.fair_semantics.specs.States.{initial_cube}
use Rattle.fair_semantics.specs.Entries.{Entry, used_entries}
use Rattle.stimulus.specs.Texts.{value_of}
use Rattle.certificate_lines.specs.declared.uses.WrittenUse.{WrittenUse}
use Rattle.certificate_lines.specs.declared.words.Opening.{Opening}
use Rattle.certificate_lines.specs.declared.words.Refutation.{Refutation as Refuting}
use Rattle.certificate_lines.specs.declared.words.Version.{Version}
use Rattle.certificate_lines.specs.declared.words.WordLine.{WordLine}
use Rattle.certificate_lines.specs.declared.words.WordLine.TheVariants as lines
use Rattle.certificate_lines.specs.Words.{word_line_of}
use Rattle.certificate_lines.specs.Uses.{uses_of}
use Rattle.certificate_lines.specs.Clauses.{clause_of as literals_of}
use Rattle.certificate_lines.specs.Fields.{number_in}
use Rattle.entry.specs.declared.faults.EntryFault.{EntryFault}
use Rattle.entry.specs.declared.faults.EntryFault.TheVariants.{BadUse, Base, Proof}
use Rattle.entry.specs.declared.uses.User.{User}
use Rattle.entry.specs.declared.uses.User.TheVariants as users
use Rattle.entry.specs.Clauses.{clause_of}
use Rattle.entry.specs.Faults.{first_bad_use}
use Rattle.entry.specs.Proved.{obligation_of}
use Rattle.certificate_texts.specs.Certificates.{as_use}
use Rattle.certificate.specs.declared.limits.TheConstants.{MAX_ENTRIES}
use Rattle.certificate.specs.declared.ends.AnswerFault.{AnswerFault}
use Rattle.certificate.specs.declared.ends.AnswerFault.TheVariants as faults
use Rattle.certificate.specs.declared.state.Refuted.TheVariants.{Skeletons}
use Rattle.certificate.specs.Lines.{Numbered}
use Rattle.certificate.specs.Refuted.{Refuted, refuted_clauses, may_open}

-- What the next line has to be.

-- what was read of a certificate: its property and version, what its refutation is to refute, and the entries, each of which
-- has passed
pub record Body : Type 0 where
  pub property : ℕ
  pub version : Version
  pub refuted : Refuted
  pub entries : List Entry

-- an entry of which some clauses were read, and how many it has
pub record Begun : Type 0 where
  pub entry : Entry
  pub count : ℕ

-- a proof: how many lines it has, how many of them were read, and where it stands
pub record Proving : Type 0 where
  pub count : ℕ
  pub read : ℕ
  pub state : ProofState

pub data Wanted : Type 0 where
  -- the first line of an entry, or of the refutation
  Start : Wanted
  -- the uses of an entry with this first line
  EntryUses : (opening : Opening) → Wanted
  -- the next clause of the entry
  EntryClause : (begun : Begun) → Wanted
  -- the first line of the proof of the clause with this number
  EntryProof : (entry : Entry) (clause : ℕ) → Wanted
  -- the next line of that proof
  EntryLine : (entry : Entry) (clause : ℕ) (proving : Proving) → Wanted
  -- the uses of the refutation
  RefutationUses : (refuting : Refuting) → Wanted
  -- the next line of its proof
  RefutationLine : (proving : Proving) → Wanted
  -- the line end
  Last : Wanted

-- what the status claims
pub data Claim : Type 0 where
  HasLasso : Claim
  HasNone : Claim

pub data State : Type 0 where
  -- the status
  Status : State
  -- the line of the property
  Property : (claim : Claim) → State
  -- the values of the latches, of a stimulus for this property
  Latches : (property : ℕ) → State
  -- the values of the inputs at the next position, or the dot
  Rows : (property : ℕ) (stimulus : Stimulus) → State
  -- nothing, behind the dot
  Dotted : (property : ℕ) (stimulus : Stimulus) → State
  -- the version
  Versioned : (property : ℕ) → State
  -- a line of the certificate
  Certified : (body : Body) (wanted : Wanted) → State
  -- nothing, behind the end
  Ended : (body : Body) → State

-- a state, or the fault of the line
abbrev pub Stepped : Type 0
Stepped = Result State AnswerFault

-- What a line makes of it.

abbrev pub with_entry : Body → Entry → Body
with_entry b e = record b { entries = b.entries ++ e ∷ [] }

-- a fault of the entry that comes next
abbrev pub entry_fault : Body → EntryFault → Stepped
entry_fault b fault = Err (faults.Entry (length b.entries) fault)

-- behind the proofs of the first i clauses: the entry has passed where there is no other
abbrev pub next_proof : Body → Entry → ℕ → Stepped
next_proof b e i = if i == length e.clauses then Ok (Certified (with_entry b e) Start) else Ok (Certified b (EntryProof e i))

-- behind some clauses: the proofs, where there is no other clause
abbrev pub next_clause : Body → Begun → Stepped
next_clause b begun =
    if length begun.entry.clauses == begun.count then next_proof b begun.entry 0 else Ok (Certified b (EntryClause begun))

-- behind some lines of a proof: behind the last an empty clause has been given or added
abbrev pub next_line : Body → Entry → ℕ → Proving → Stepped
next_line b e i p =
    if p.read == p.count then (if p.state.finished then next_proof b e (i + 1) else entry_fault b (Proof i p.count Unfinished))
    else Ok (Certified b (EntryLine e i p))

abbrev pub next_refuting_line : Body → Proving → Stepped
next_refuting_line b p =
    if p.read == p.count then (if p.state.finished then Ok (Certified b Last) else Err (faults.Refutation p.count Unfinished))
    else Ok (Certified b (RefutationLine p))

-- a proof before its first line
abbrev pub begin_proof : ℕ → List (List Lit) → Proving
begin_proof count given = record { count = count; read = 0; state = start given }

abbrev pub with_line : Proving → ProofState → Proving
with_line p s = record { count = p.count; read = p.read + 1; state = s }

abbrev pub open_step : Body → Opening → Stepped
open_step b o = if nat_lt (length b.entries) MAX_ENTRIES then Ok (Certified b (EntryUses o)) else Err faults.TooLong

-- an entry's first line, where its kind may stand, while there is room for one more; or the refutation's
abbrev pub start_step : Body → ℕ → Option WordLine → Stepped
start_step b number (Some (lines.Opening o)) =
    if may_open b.refuted o.kind then open_step b o else Err (faults.Shape number)
start_step b number (Some (lines.Refutation r)) = Ok (Certified b (RefutationUses r))
start_step b number _ = Err (faults.Shape number)

abbrev pub unless_bad : Option ℕ → (ℕ → Stepped) → Stepped → Stepped
unless_bad None bad rest = rest
unless_bad (Some number) bad rest = bad number

-- the uses, as many as were said, each of which may stand where it does
abbrev pub uses_step : Body → User → ℕ → (ℕ → Stepped) → ℕ → Option (List WrittenUse) → (List Use → Stepped) → Stepped
uses_step b user count bad number None rest = Err (faults.Shape number)
uses_step b user count bad number (Some uses) rest =
    if length uses == count then unless_bad (first_bad_use user b.entries (map as_use uses)) bad (rest (map as_use uses))
    else Err (faults.Shape number)

-- an entry before its first clause
abbrev pub begin_entry : Opening → List Use → Begun
begin_entry o uses = record { entry = record { kind = o.kind; clauses = []; uses = uses }; count = o.clauses }

abbrev pub with_clause : Begun → List Lit → Begun
with_clause begun clause =
    record begun { entry = record begun.entry { clauses = begun.entry.clauses ++ clause ∷ [] } }

-- a clause of a reach entry holds a literal of the initial cube
abbrev pub has_base : Circuit → Kind → List Lit → Bool
has_base c Reach clause = list_any (has_literal (initial_cube c)) clause
has_base c Wall clause = true

abbrev pub base_step : Circuit → Body → Begun → Result (List Lit) EntryFault → Stepped
base_step c b begun (Err fault) = entry_fault b fault
base_step c b begun (Ok clause) =
    if has_base c begun.entry.kind clause then next_clause b (with_clause begun clause)
    else entry_fault b (Base (length begun.entry.clauses))

-- a clause, over the latches, with its base
abbrev pub clause_step : Circuit → Body → Begun → ℕ → Option (List ℕ) → Stepped
clause_step c b begun number None = Err (faults.Shape number)
clause_step c b begun number (Some literals) = base_step c b begun (clause_of c literals)

-- the first line of the proof of clause i, which refutes its obligation
abbrev pub proof_step : Circuit → Body → Entry → ℕ → ℕ → Option WordLine → Stepped
proof_step c b e i number (Some (lines.Proof count)) = next_line b e i (begin_proof count (obligation_of c b.entries e i))
proof_step c b e i number _ = Err (faults.Shape number)

abbrev pub line_step : Body → Entry → ℕ → Proving → Result ProofState LratFault → Stepped
line_step b e i p (Ok s) = next_line b e i (with_line p s)
line_step b e i p (Err fault) = entry_fault b (Proof i p.read fault)

abbrev pub refuting_step : Body → Proving → Result ProofState LratFault → Stepped
refuting_step b p (Ok s) = next_refuting_line b (with_line p s)
refuting_step b p (Err fault) = Err (faults.Refutation p.read fault)

abbrev pub last_step : Body → ℕ → Option WordLine → Stepped
last_step b number (Some lines.End) = Ok (Ended b)
last_step b number _ = Err (faults.Shape number)

-- the uses of an entry, and then its clauses
abbrev pub entry_uses_step : Body → Opening → ℕ → Option (List WrittenUse) → Stepped
entry_uses_step b o number uses =
    uses_step b (users.Entry o.kind) o.uses (λ n. entry_fault b (BadUse n)) number uses (λ us. next_clause b (begin_entry o us))

-- the uses of the refutation, and then its proof, which refutes the clauses that are to be refuted
abbrev pub refutation_uses_step : Circuit → Body → Refuting → ℕ → Option (List WrittenUse) → Stepped
refutation_uses_step c b r number uses =
    uses_step b users.Refutation r.uses (λ n. Err (faults.RefuteUse n)) number uses
    (λ us. next_refuting_line b (begin_proof r.proof_lines (refuted_clauses c b.refuted b.property (used_entries b.entries us))))

-- a line of a certificate
abbrev pub certificate_step : Circuit → Body → Wanted → ℕ → List ℕ → Stepped
certificate_step c b Start number line = start_step b number (word_line_of line)
certificate_step c b (EntryUses o) number line = entry_uses_step b o number (uses_of b.version line)
certificate_step c b (EntryClause begun) number line = clause_step c b begun number (literals_of line)
certificate_step c b (EntryProof e i) number line = proof_step c b e i number (word_line_of line)
certificate_step c b (EntryLine e i p) number line = line_step b e i p (judge p.state line)
certificate_step c b (RefutationUses r) number line = refutation_uses_step c b r number (uses_of b.version line)
certificate_step c b (RefutationLine p) number line = refuting_step b p (judge p.state line)
certificate_step c b Last number line = last_step b number (word_line_of line)

abbrev pub version_step : ℕ → ℕ → Option WordLine → Stepped
version_step n number (Some (lines.Version version)) =
    Ok (Certified (record { property = n; version = version; refuted = Skeletons; entries = [] }) Start)
version_step n number _ = Err (faults.Shape number)

-- the line is the first of a text about rounds, or of a sheet for all properties, which are no answers
abbrev pub opens_rounds : List ℕ → Bool
opens_rounds line = bytes_eq (take 6 line) (codes "rounds")

abbrev pub opens_sheet : List ℕ → Bool
opens_sheet line = bytes_eq (take 3 line) (codes "all")

abbrev pub opens_other : List ℕ → Bool
opens_other line = opens_rounds line || opens_sheet line

abbrev pub other_status : ℕ → Bool → Stepped
other_status number true = Err faults.UnknownStatus
other_status number false = Err (faults.Shape number)

abbrev pub status_step : ℕ → List ℕ → Stepped
status_step number line =
    if bytes_eq line (codes "1") then Ok (Property HasLasso)
    else if bytes_eq line (codes "0") then Ok (Property HasNone)
    else if bytes_eq line (codes "2") then Err faults.UnknownStatus
    else other_status number (opens_other line)

-- the number of the property that a line names
abbrev pub property_in : List ℕ → Option ℕ
property_in [] = None
property_in (byte ∷ digits) = if byte == 106 then number_in digits else None

-- behind the line of property n
abbrev pub claimed : Claim → ℕ → State
claimed HasLasso n = Latches n
claimed HasNone n = Versioned n

abbrev pub property_step : Circuit → Claim → ℕ → Option ℕ → Stepped
property_step c claim number None = Err (faults.Shape number)
property_step c claim number (Some n) =
    if nat_lt n (length c.justice) then Ok (claimed claim n) else Err (faults.NoProperty n)

-- the value before the others, where each is there
abbrev pub with_value : Option Bool → Option (List Bool) → Option (List Bool)
with_value (Some value) (Some values) = Some (value ∷ values)
with_value _ _ = None

-- the values that the characters of a line stand for
abbrev pub values_in : List ℕ → Option (List Bool)
values_in [] = Some []
values_in (character ∷ line) = with_value (value_of character) (values_in line)

abbrev pub latches_step : ℕ → ℕ → Option (List Bool) → Stepped
latches_step n number None = Err (faults.Shape number)
latches_step n number (Some values) = Ok (Rows n (record { latches = values; inputs = [] }))

abbrev pub row_step : ℕ → Stimulus → ℕ → Option (List Bool) → Stepped
row_step n s number None = Err (faults.Shape number)
row_step n s number (Some values) = Ok (Rows n (record { latches = s.latches; inputs = s.inputs ++ values ∷ [] }))

-- The state behind a line with this number, which is not skipped, or the line's fault.
abbrev pub step : Circuit → State → ℕ → List ℕ → Stepped
step c Status number line = status_step number line
step c (Property claim) number line = property_step c claim number (property_in line)
step c (Latches n) number line = latches_step n number (values_in line)
step c (Rows n s) number line = if bytes_eq line (codes ".") then Ok (Dotted n s) else row_step n s number (values_in line)
step c (Dotted n s) number line = Err (faults.Trailing number)
step c (Versioned n) number line = version_step n number (word_line_of line)
step c (Certified b wanted) number line = certificate_step c b wanted number line
step c (Ended b) number line = Err (faults.Trailing number)

abbrev pub and_then : Stepped → (State → Stepped) → Stepped
and_then (Ok s) rest = rest s
and_then (Err fault) rest = Err fault

-- The state behind some lines, or the first fault of one.
abbrev pub read_lines : Circuit → State → List Numbered → Stepped
read_lines c s [] = Ok s
read_lines c s (line ∷ others) = and_then (step c s line.0 line.1) (λ t. read_lines c t others)
