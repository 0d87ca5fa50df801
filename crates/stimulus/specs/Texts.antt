-- The text of a stimulus, after the witnesses of AIGER 1.9 (Biere, Heljanko, Wieringa, 2011): a line for the latches,
-- and then one for the inputs of each position. Lines that begin with c or u are skipped.
use Rattle.std.specs.Prelude.{◌≡◌, ℕ, ◌+◌, ◌==◌, ◌||◌, ◌⊎◌, Bool, true, false, not, List, [], ◌∷◌, ◌++◌, map, filter, length, Option, Some, None, IsSome, IsTrue, All, decimal, codes, if◌then◌else◌}
use Rattle.std.specs.List.{flat_map}
use Rattle.aig_semantics.specs.declared.traces.Stimulus.{Stimulus}
use Rattle.text_grammar.specs.Lines.{lines_of}

-- the value that a character stands for; x is any value, and is read as 0
abbrev pub value_of : ℕ → Option Bool
value_of character =
    if character == 48 then Some false else if character == 49 then Some true else if character == 120 then Some false else None

-- the line begins with c or u
abbrev pub is_skipped : List ℕ → Bool
is_skipped [] = false
is_skipped (first ∷ line) = (first == 99) || (first == 117)

-- what the characters of each line stand for
abbrev pub row_values : List (List ℕ) → List (List (Option Bool))
row_values lines = map (map value_of) lines

-- each of these values is there
abbrev pub present : List (List Bool) → List (List (Option Bool))
present rows = map (map Some) rows

-- the lines that are not skipped
abbrev pub kept_lines : List (List ℕ) → List (List ℕ)
kept_lines lines = filter (λ line. not (is_skipped line)) lines

-- the lines that are not skipped spell the values of the latches and of each position's inputs
abbrev pub IsTextOf : Stimulus → List ℕ → Type 0
IsTextOf stimulus bytes = row_values (kept_lines (lines_of bytes)) ≡ present (stimulus.latches ∷ stimulus.inputs)

-- the line is skipped, or each of its characters stands for a value
abbrev pub IsStimulusLine : List ℕ → Type 0
IsStimulusLine line = IsTrue (is_skipped line) ⊎ All (λ character. IsSome (value_of character)) line

-- the line with this number is the first that is none of a stimulus
pub record IsFirstBad (lines : List (List ℕ)) (number : ℕ) : Type 0 where
  pub front : List (List ℕ)
  pub line : List ℕ
  pub others : List (List ℕ)
  pub split : lines ≡ front ++ line ∷ others
  pub good : All IsStimulusLine front
  pub bad : IsStimulusLine line → ⊥
  pub place : number ≡ length front + 1

-- every line is skipped: the line of the latches is wanted where the text ends
pub record LacksLatches (lines : List (List ℕ)) (number : ℕ) : Type 0 where
  pub skipped : All (λ line. IsTrue (is_skipped line)) lines
  pub place : number ≡ length lines + 1

-- the first line that is none of a stimulus, or the one that is wanted where the text ends, has this number
abbrev pub IsShape : List ℕ → ℕ → Type 0
IsShape bytes number = IsFirstBad (lines_of bytes) number ⊎ LacksLatches (lines_of bytes) number

-- what is written for a value
abbrev pub digit_of : Bool → ℕ
digit_of false = 48
digit_of true = 49

-- a digit for each value, and a line feed
abbrev pub line_of : List Bool → List ℕ
line_of values = map digit_of values ++ 10 ∷ []

abbrev pub stimulus_lines : Stimulus → List ℕ
stimulus_lines stimulus = line_of stimulus.latches ++ flat_map line_of stimulus.inputs

-- the status, the line of property j, these lines, and a line with a dot
abbrev pub framed : ℕ → List ℕ → List ℕ
framed j lines = codes "1" ++ 10 ∷ codes "j" ++ decimal j ++ 10 ∷ lines ++ codes "." ++ 10 ∷ []

-- the text of an answer that has a stimulus for property j
abbrev pub answer_text : ℕ → Stimulus → List ℕ
answer_text j stimulus = framed j (stimulus_lines stimulus)

-- the text is an answer for property j whose lines in the middle are read as the stimulus
abbrev pub IsReadAgain : ℕ → Stimulus → List ℕ → Type 0
IsReadAgain j stimulus text = (lines : List ℕ) × (text ≡ framed j lines) × IsTextOf stimulus lines
