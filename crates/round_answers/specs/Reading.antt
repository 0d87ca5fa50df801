-- The first fault of a text about rounds, by its lines from the first on: what the next line has to be, and what each line makes
-- of that. The run is read as a stimulus is, the certificate as that of an answer, of the monitor. The order of the tests is
-- this program's own.
use Rattle.std.specs.Prelude.{ℕ, ◌+◌, ◌^◌, Bool, true, false, ◌&&◌, List, [], ◌∷◌, drop, take, length, Option, Some, None, Result, Ok, Err, codes, if◌then◌else◌, nat_lt, nat_le}
use Rattle.std.specs.Str.{bytes_eq}
use Rattle.aig_semantics.specs.declared.limits.TheConstants.{MAX_VARIABLE}
use Rattle.aig_semantics.specs.Circuits.{Circuit}
use Rattle.certificate_lines.specs.declared.words.Version.TheVariants.{One, Two}
use Rattle.certificate_lines.specs.declared.words.WordLine.{WordLine}
use Rattle.certificate_lines.specs.declared.words.WordLine.TheVariants as lines
use Rattle.certificate_lines.specs.Words.{word_line_of}
use Rattle.certificate_lines.specs.Fields.{number_in}
use Rattle.certificate.specs.declared.ends.AnswerFault.{AnswerFault}
use Rattle.certificate.specs.declared.ends.AnswerFault.TheVariants as faults
use Rattle.certificate.specs.declared.state.Refuted.TheVariants.{States}
use Rattle.certificate.specs.Lines.{Numbered}
use Rattle.certificate.specs.Reading.{Body, Start, Latches, Certified, property_in}
use Rattle.certificate.specs.Reading as answers
use Rattle.round_monitor.specs.Numbers.{sizes_of, greatest}
use Rattle.round_monitor.specs.Monitor.{monitor_circuit}
use Rattle.round_answers.specs.declared.limits.TheConstants.{MAX_ROUNDS}
use Rattle.round_answers.specs.Answers.{last_latch}

-- why the reading ends at a line: its fault, or a monitor whose greatest variable would be above the limit
pub data Stop : Type 0 where
  Fault : (fault : AnswerFault) → Stop
  TooLarge : (variable : ℕ) → Stop

pub data State : Type 0 where
  -- the first line
  First : State
  -- the line of the property
  Named : (k : ℕ) → State
  -- the line run, or the version
  Chosen : (k n : ℕ) → State
  -- a line of a run
  Running : (k n : ℕ) (run : answers.State) → State
  -- a line of a certificate of the monitor
  Listing : (k n : ℕ) (listed : answers.State) → State

-- a state, or why the reading ends
abbrev pub Stepped : Type 0
Stepped = Result State Stop

-- the number of rounds that the first line names
abbrev pub asked_in : List ℕ → Option ℕ
asked_in line = if bytes_eq (take 7 line) (codes "rounds ") then number_in (drop 7 line) else None

abbrev pub first_step : ℕ → Option ℕ → Stepped
first_step number None = Err (Fault (faults.Shape number))
first_step number (Some k) = if nat_le 1 k && nat_le k MAX_ROUNDS then Ok (Named k) else Err (Fault (faults.Shape number))

-- behind the line of property n, of which there has to be a monitor
abbrev pub named_step : Circuit → ℕ → ℕ → Option ℕ → Stepped
named_step c k number None = Err (Fault (faults.Shape number))
named_step c k number (Some n) =
    if nat_lt n (length c.justice) then
    (if nat_le (greatest (sizes_of c n k)) MAX_VARIABLE then Ok (Chosen k n) else Err (TooLarge (greatest (sizes_of c n k))))
    else Err (Fault (faults.NoProperty n))

-- a certificate of version 2 before its first entry, whose refutation is of the states in which the last latch is true
abbrev pub first_body : Circuit → ℕ → Body
first_body t n = record { property = n; version = Two; refuted = States (last_latch t); entries = [] }

abbrev pub version_step : Circuit → ℕ → ℕ → ℕ → Option WordLine → Stepped
version_step c k n number (Some (lines.Version Two)) = Ok (Listing k n (Certified (first_body (monitor_circuit c n k) n) Start))
version_step c k n number _ = Err (Fault (faults.Shape number))

abbrev pub chosen_step : Circuit → ℕ → ℕ → ℕ → List ℕ → Stepped
chosen_step c k n number line =
    if bytes_eq line (codes "run") then Ok (Running k n (Latches n)) else version_step c k n number (word_line_of line)

-- the state of a run or of a certificate, behind its line
abbrev pub within : (answers.State → State) → answers.Stepped → Stepped
within inside (Ok s) = Ok (inside s)
within inside (Err fault) = Err (Fault fault)

-- The state behind a line with this number, which is not skipped, or why the reading ends there.
abbrev pub step : Circuit → State → ℕ → List ℕ → Stepped
step c First number line = first_step number (asked_in line)
step c (Named k) number line = named_step c k number (property_in line)
step c (Chosen k n) number line = chosen_step c k n number line
step c (Running k n s) number line = within (Running k n) (answers.step c s number line)
step c (Listing k n s) number line = within (Listing k n) (answers.step (monitor_circuit c n k) s number line)

abbrev pub and_then : Stepped → (State → Stepped) → Stepped
and_then (Ok s) rest = rest s
and_then (Err stop) rest = Err stop

-- The state behind some lines, or why the reading ends at one.
abbrev pub read_lines : Circuit → State → List Numbered → Stepped
read_lines c s [] = Ok s
read_lines c s (line ∷ others) = and_then (step c s line.0 line.1) (λ t. read_lines c t others)
