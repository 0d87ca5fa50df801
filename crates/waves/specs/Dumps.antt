-- The value change dump of a lasso (IEEE 1364-2005, clause 18): header, names, all values at each position, and the loop
-- once more behind the last position. Which declarations and times there are is this program's.
use Rattle.std.specs.Prelude.{ℕ, ◌+◌, ◌-◌, ◌*◌, Bool, nat_le, nat_lt, List, [], ◌∷◌, ◌++◌, map, drop, length, decimal, codes, if◌then◌else◌}
use Rattle.text_grammar.specs.Lines.{ended_lines}
use Rattle.aig_semantics.specs.declared.traces.Position.{Position}
use Rattle.aig_semantics.specs.declared.traces.Lasso.{Lasso}
use Rattle.aig_semantics.specs.Circuits.{Circuit}
use Rattle.aig_semantics.specs.Runs.{valuation_at}
use Rattle.aig_semantics.specs.Stimuli.{simulated}
use Rattle.aiger_grammar.specs.Models.{Model}
use Rattle.waves.specs.declared.wires.Wire.{Wire}
use Rattle.waves.specs.declared.signals.Signal.{Signal}
use Rattle.waves.specs.Wires.{value_in}
use Rattle.waves.specs.Signals.{signals_of}

-- the lasso's positions, and then those of its loop once more
abbrev pub unrolled : Circuit → Lasso → List Position
unrolled c lasso = simulated c lasso.start (lasso.inputs ++ drop lasso.from lasso.inputs)

-- the indices of a bus, the highest first; of one wire none
abbrev pub range_text : Signal → List ℕ
range_text s = if nat_lt (length s.wires) 2 then [] else codes " [" ++ decimal (s.low + (length s.wires - 1)) ++ 58 ∷ (decimal s.low ++ 93 ∷ [])

abbrev pub width_text : Signal → List ℕ
width_text s = codes "$var wire " ++ decimal (length s.wires) ++ 32 ∷ []

-- the declaration of a signal: a wire of so many bits
abbrev pub var_line : Signal → List ℕ
var_line s = width_text s ++ s.code ++ 32 ∷ (s.name ++ range_text s ++ codes " $end")

-- the program and the property
abbrev pub comment_line : ℕ → List ℕ
comment_line j = codes "$comment fairlive j" ++ decimal j ++ codes " $end"

abbrev pub header_lines : ℕ → List Signal → List (List ℕ)
header_lines j signals =
    codes "$timescale 1ns $end"
    ∷ comment_line j
    ∷ codes "$scope module fairlive $end"
    ∷ (map var_line signals ++ codes "$upscope $end" ∷ codes "$enddefinitions $end" ∷ [])

-- the time of a position: ten units each
abbrev pub time_line : ℕ → List ℕ
time_line t = 35 ∷ decimal (10 * t)

abbrev pub digit_of : Bool → ℕ
digit_of value = if value then 49 else 48

-- the digit of each wire
abbrev pub digits_of : List Bool → Bool → List Wire → List ℕ
digits_of values looping wires = map (λ w. digit_of (value_in values looping w)) wires

-- the digit of one wire, or the letter b, the digits and a space
abbrev pub word_of : List Bool → Bool → List Wire → List ℕ
word_of values looping wires =
    if nat_lt (length wires) 2 then digits_of values looping wires else 98 ∷ (digits_of values looping wires ++ 32 ∷ [])

abbrev pub value_line : List Bool → Bool → Signal → List ℕ
value_line values looping s = word_of values looping s.wires ++ s.code

-- the time of position t, and the values of all signals at it; from the place `from` on it is in the loop
abbrev pub position_lines : Circuit → ℕ → List Signal → ℕ → Position → List (List ℕ)
position_lines c from signals t p = time_line t ∷ map (value_line (valuation_at c p) (nat_le from t)) signals

-- positions from position t on
abbrev pub run_lines : Circuit → ℕ → List Signal → ℕ → List Position → List (List ℕ)
run_lines c from signals t [] = []
run_lines c from signals t (p ∷ run) = position_lines c from signals t p ++ run_lines c from signals (t + 1) run

-- all positions of a run, and behind the last one more time, at which nothing changes
abbrev pub all_lines : Circuit → ℕ → List Signal → List Position → List (List ℕ)
all_lines c from signals run = run_lines c from signals 0 run ++ time_line (length run) ∷ []

-- the lines of the dump of these signals
abbrev pub dump_lines : Circuit → ℕ → List Signal → Lasso → List (List ℕ)
dump_lines c j signals lasso = header_lines j signals ++ all_lines c lasso.from signals (unrolled c lasso)

-- the waves of a lasso, which is one of property j of the model
abbrev pub waves_text : Model → ℕ → Lasso → List ℕ
waves_text m j lasso = ended_lines (dump_lines m.circuit j (signals_of m j) lasso)
