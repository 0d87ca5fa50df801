-- The first fault of a sheet, by its lines from the first on: what the next line has to be, and what each line makes of that.
-- Entries and refutations are read as those of a certificate, stimuli as those of an answer; a stimulus is replayed at its dot.
-- The order of the tests is this program's own.
use Rattle.std.specs.Prelude.{ℕ, ◌+◌, Bool, true, false, List, [], ◌∷◌, ◌++◌, drop, take, length, Option, Some, None, Result, Ok, Err, codes, if◌then◌else◌, ◌==◌}
use Rattle.std.specs.Str.{bytes_eq}
use Rattle.aig_semantics.specs.declared.traces.Stimulus.{Stimulus}
use Rattle.aig_semantics.specs.Circuits.{Circuit}
use Rattle.fair_semantics.specs.Entries.{Entry}
use Rattle.stimulus.specs.declared.ends.ReplayFault.{ReplayFault}
use Rattle.certificate_lines.specs.declared.words.Version.TheVariants.{Two}
use Rattle.certificate_lines.specs.declared.words.WordLine.{WordLine}
use Rattle.certificate_lines.specs.declared.words.WordLine.TheVariants as lines
use Rattle.certificate_lines.specs.Words.{word_line_of}
use Rattle.certificate_lines.specs.Fields.{number_in}
use Rattle.certificate.specs.declared.ends.AnswerFault.{AnswerFault}
use Rattle.certificate.specs.declared.ends.AnswerFault.TheVariants as faults
use Rattle.certificate.specs.declared.state.Refuted.TheVariants.{Skeletons, States}
use Rattle.certificate.specs.Lines.{Numbered, kept_readable, bare}
use Rattle.certificate.specs.Reading.{Body, Start, RefutationUses, Last, Latches, Dotted, Certified, open_step, opens_sheet}
use Rattle.certificate.specs.Reading as answers
use Rattle.sheet_answers.specs.declared.blocks.Block.TheVariants.{Lasso, Holds, Open}
use Rattle.sheet_answers.specs.declared.ends.BlockFault.{BlockFault}
use Rattle.sheet_answers.specs.declared.ends.BlockFault.TheVariants as blocks
use Rattle.sheet_answers.specs.Sheets.{Counts, none, total, lasso_line, holds_line, open_line}

-- the fault of a sheet: as of any answer, or of the block of property n
pub data Fault : Type 0 where
  Plain : (fault : AnswerFault) → Fault
  InBlock : (n : ℕ) (fault : BlockFault) → Fault

pub data State : Type 0 where
  -- the line of all properties
  First : State
  -- the version
  Versioned : State
  -- a line of an entry, or what stands behind the entries
  Listing : (listed : answers.State) → State
  -- the first line of the next block, or the line end where each property has its block
  Between : (counts : Counts) (entries : List Entry) → State
  -- the first line of a refutation
  Refuting : (counts : Counts) (entries : List Entry) → State
  -- a further line of it
  Proving : (counts : Counts) (refuted : answers.State) → State
  -- a line of a stimulus
  Showing : (counts : Counts) (entries : List Entry) (shown : answers.State) → State
  -- nothing, behind the end
  Done : (counts : Counts) (entries : List Entry) → State

-- a state, or the fault of the line
abbrev pub Stepped : Type 0
Stepped = Result State Fault

-- the fault of each stimulus as one for property n; none where it stands for a fair lasso
abbrev pub Replays : Type 0
Replays = ℕ → Stimulus → Option ReplayFault

abbrev pub misplaced : ℕ → Stepped
misplaced number = Err (Plain (faults.Shape number))

-- the next state behind that of an answer's lines, or their fault
abbrev pub after_answer : (answers.State → Stepped) → (AnswerFault → Fault) → answers.Stepped → Stepped
after_answer next fault (Ok s) = next s
after_answer next fault (Err first) = Err (fault first)

-- The head.

-- the first of these lines begins with the word all: the text is judged as a sheet
abbrev pub is_sheet : List (List ℕ) → Bool
is_sheet [] = false
is_sheet (line ∷ lines) = opens_sheet line

-- a text is judged as a sheet, by its first line that is not skipped
abbrev pub opens_as_sheet : List ℕ → Bool
opens_as_sheet text = is_sheet (bare (kept_readable text))

-- the number of properties that the first line names
abbrev pub count_in : List ℕ → Option ℕ
count_in line = if bytes_eq (take 4 line) (codes "all ") then number_in (drop 4 line) else None

abbrev pub first_step : Circuit → ℕ → Option ℕ → Stepped
first_step c number None = misplaced number
first_step c number (Some count) =
    if count == length c.justice then Ok Versioned else Err (Plain (faults.NoProperty count))

-- before the first entry, whose lines are those of a certificate of version 2; what that refutes plays no part
abbrev pub no_entries : Body
no_entries = record { property = 0; version = Two; refuted = States (record { var = 0; positive = true }); entries = [] }

abbrev pub version_step : ℕ → Option WordLine → Stepped
version_step number (Some (lines.Version Two)) = Ok (Listing (Certified no_entries Start))
version_step number _ = misplaced number

-- The blocks.

abbrev pub end_step : Counts → List Entry → ℕ → Option WordLine → Stepped
end_step t entries number (Some lines.End) = Ok (Done t entries)
end_step t entries number _ = misplaced number

-- the first line of the block of property n, which comes next
abbrev pub block_step : Counts → List Entry → ℕ → ℕ → List ℕ → Stepped
block_step t entries n number line =
    if bytes_eq line (lasso_line n) then Ok (Showing t entries (Latches n))
    else if bytes_eq line (holds_line n) then Ok (Refuting t entries)
    else if bytes_eq line (open_line n) then Ok (Between (record t { unknown = t.unknown + 1 }) entries)
    else misplaced number

abbrev pub between_step : Circuit → Counts → List Entry → ℕ → List ℕ → Stepped
between_step c t entries number line =
    if total t == length c.justice then end_step t entries number (word_line_of line)
    else block_step t entries (total t) number line

-- behind the entries so far: an entry's first line, or the first line of what follows them all
abbrev pub entry_step : Circuit → Body → ℕ → List ℕ → Option WordLine → Stepped
entry_step c b number line (Some (lines.Opening o)) = after_answer (λ s. Ok (Listing s)) Plain (open_step b o)
entry_step c b number line _ = between_step c none b.entries number line

abbrev pub listing_step : Circuit → answers.State → ℕ → List ℕ → Stepped
listing_step c (Certified b Start) number line = entry_step c b number line (word_line_of line)
listing_step c s number line = after_answer (λ t. Ok (Listing t)) Plain (answers.step c s number line)

-- a certificate of property n over the entries, before its refutation
abbrev pub over : ℕ → List Entry → Body
over n entries = record { property = n; version = Two; refuted = Skeletons; entries = entries }

abbrev pub refute_step : Counts → List Entry → ℕ → Option WordLine → Stepped
refute_step t entries number (Some (lines.Refutation r)) = Ok (Proving t (Certified (over (total t) entries) (RefutationUses r)))
refute_step t entries number _ = misplaced number

-- behind a line of a refutation; its last ends the block
abbrev pub proved : Counts → answers.State → Stepped
proved t (Certified b Last) = Ok (Between (record t { holds = t.holds + 1 }) b.entries)
proved t s = Ok (Proving t s)

-- the fault of a line of a refutation of property n
abbrev pub refuting_fault : ℕ → AnswerFault → Fault
refuting_fault n (faults.RefuteUse number) = InBlock n (blocks.RefuteUse number)
refuting_fault n (faults.Refutation line fault) = InBlock n (blocks.Refutation line fault)
refuting_fault n fault = Plain fault

-- what the replay of a stimulus for property n makes of its block
abbrev pub replayed : Counts → List Entry → ℕ → Option ReplayFault → Stepped
replayed t entries n None = Ok (Between (record t { lassos = t.lassos + 1 }) entries)
replayed t entries n (Some fault) = Err (InBlock n (blocks.Replay fault))

-- behind a line of a stimulus; its dot ends the block
abbrev pub shown : Replays → Counts → List Entry → answers.State → Stepped
shown replays t entries (Dotted n s) = replayed t entries n (replays n s)
shown replays t entries s = Ok (Showing t entries s)

-- The state behind a line with this number, which is not skipped, or the line's fault.
abbrev pub step : Circuit → Replays → State → ℕ → List ℕ → Stepped
step c replays First number line = first_step c number (count_in line)
step c replays Versioned number line = version_step number (word_line_of line)
step c replays (Listing s) number line = listing_step c s number line
step c replays (Between t entries) number line = between_step c t entries number line
step c replays (Refuting t entries) number line = refute_step t entries number (word_line_of line)
step c replays (Proving t s) number line = after_answer (proved t) (refuting_fault (total t)) (answers.step c s number line)
step c replays (Showing t entries s) number line = after_answer (shown replays t entries) Plain (answers.step c s number line)
step c replays (Done t entries) number line = Err (Plain (faults.Trailing number))

abbrev pub and_then : Stepped → (State → Stepped) → Stepped
and_then (Ok s) rest = rest s
and_then (Err fault) rest = Err fault

-- The state behind some lines, or the first fault of one.
abbrev pub read_lines : Circuit → Replays → State → List Numbered → Stepped
read_lines c replays s [] = Ok s
read_lines c replays s (line ∷ others) = and_then (step c replays s line.0 line.1) (λ t. read_lines c replays t others)
