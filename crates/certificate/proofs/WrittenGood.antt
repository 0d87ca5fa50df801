-- What is written of a stimulus is a good answer.
use Rattle.std.proofs.Common.{◌≡◌, ◌≢◌, ◌<◌, ◌^◌, ℕ, ◌+◌, Bool, true, false, not, List, [], ◌∷◌, ◌++◌, map, refl, sym, ap, ◌∙◌, arith, append_assoc, All}
use Rattle.std.specs.Prelude.{codes, decimal}
use Rattle.std.specs.Str.Parse.{AllDigits}
use Rattle.std.proofs.lemmas.Fmt.{decimal_is_IsNumeral}
use Rattle.std.proofs.lemmas.Str.Parse.{digit_from_value}
use Rattle.std.proofs.lemmas.Grind.{flat_map-append}
use Rattle.std.proofs.lemmas.List.Folds.{flat_map-map}
use Rattle.std.proofs.lemmas.List.Elements.{All-nil, All-cons, All-append, filter-append}
use Rattle.text_grammar.specs.Pieces.{Lacks}
use Rattle.text_grammar.specs.Lines.{lines_of, ended_lines}
use Rattle.text_grammar.proofs.LineLaws.{reads_written_lines}
use Rattle.aig_semantics.specs.declared.traces.Stimulus.{Stimulus}
use Rattle.aig_semantics.specs.Circuits.{Circuit}
use Rattle.stimulus.specs.Texts.{is_skipped, kept_lines, digit_of, stimulus_lines, answer_text}
use Rattle.stimulus.proofs.WriteLemmas.{rows_lack, rows_kept, rows_read}
use Rattle.certificate.specs.Lines.{kept_from, kept_in, bare}
use Rattle.certificate_texts.specs.Writing.{property_line}
use Rattle.certificate.specs.Answers.{Spells, HasStimulus}
use Rattle.certificate.specs.Laws.{WrittenIsGood}

-- ---- the kept lines are those of a stimulus' text

kept-bare_by : (number : ℕ) (line : List ℕ) (lines : List (List ℕ)) (b : Bool) → is_skipped line ≡ b → bare (kept_from (number + 1) lines) ≡ kept_lines lines
    → bare (kept_from number (line ∷ lines)) ≡ kept_lines (line ∷ lines)
kept-bare_by number line lines true is h = rw is h
kept-bare_by number line lines false is h = rw is (ap (λ ls. line ∷ ls) h)

pub kept-bare : (number : ℕ) (lines : List (List ℕ)) → bare (kept_from number lines) ≡ kept_lines lines
kept-bare number [] = refl
kept-bare number (line ∷ lines) = kept-bare_by number line lines (is_skipped line) refl (kept-bare (number + 1) lines)

-- ---- the lines that are written

abbrev rows_of : Stimulus → List (List ℕ)
rows_of s = map (map digit_of) (s.latches ∷ s.inputs)

abbrev answer_lines_of : ℕ → Stimulus → List (List ℕ)
answer_lines_of n s = codes "1" ∷ property_line n ∷ (rows_of s ++ codes "." ∷ [])

digits_lack : (digits : List ℕ) → AllDigits 10 digits → Lacks digits 10
digits_lack [] all = All-nil (λ b. b ≢ 10)
digits_lack (d ∷ digits) all =
    let range = digit_from_value d all.0 in
    let differs : d ≢ 10 = omega (arith, range.0) in
    All-cons (λ b. b ≢ 10) d digits differs (digits_lack digits all.1)

one_lacks : (byte : ℕ) → byte ≢ 10 → Lacks (byte ∷ []) 10
one_lacks byte differs = All-cons (λ b. b ≢ 10) byte [] differs (All-nil (λ b. b ≢ 10))

property_lacks : (n : ℕ) → n < 2 ^ 63 → Lacks (property_line n) 10
property_lacks n small =
    let within : n < 2 ^ 64 = omega (arith, small) in
    let differs : 106 ≢ 10 = omega arith in
    All-cons (λ b. b ≢ 10) 106 (decimal n) differs (digits_lack (decimal n) (decimal_is_IsNumeral n within).0.1)

lines_lack : (n : ℕ) (s : Stimulus) → n < 2 ^ 63 → All (λ line. Lacks line 10) (answer_lines_of n s)
lines_lack n s small =
    let LacksFeed : List ℕ → Type 0 = λ line. Lacks line 10 in
    let status : Lacks (codes "1") 10 = one_lacks 49 (let differs : 49 ≢ 10 = omega arith in differs) in
    let dot : Lacks (codes ".") 10 = one_lacks 46 (let differs : 46 ≢ 10 = omega arith in differs) in
    let last : All LacksFeed (codes "." ∷ []) = All-cons LacksFeed (codes ".") [] dot (All-nil LacksFeed) in
    All-cons LacksFeed (codes "1") (property_line n ∷ (rows_of s ++ codes "." ∷ [])) status
    (All-cons LacksFeed (property_line n) (rows_of s ++ codes "." ∷ []) (property_lacks n small)
    (All-append LacksFeed (rows_of s) (codes "." ∷ []) (rows_lack (s.latches ∷ s.inputs)) last))

regrouped : (digits rows : List ℕ) → ((digits ++ 10 ∷ rows) ++ 46 ∷ []) ++ 10 ∷ [] ≡ (digits ++ 10 ∷ []) ++ (rows ++ 46 ∷ 10 ∷ [])
regrouped digits rows =
    append_assoc (digits ++ 10 ∷ rows) (46 ∷ []) (10 ∷ []) ∙ append_assoc digits (10 ∷ rows) (46 ∷ 10 ∷ [])
    ∙ sym (append_assoc digits (10 ∷ []) (rows ++ 46 ∷ 10 ∷ []))

text_is_lines : (n : ℕ) (s : Stimulus) → answer_text n s ≡ ended_lines (answer_lines_of n s)
text_is_lines n s =
    let rows : stimulus_lines s ≡ ended_lines (rows_of s) = sym (flat_map-map (λ line. line ++ 10 ∷ []) (map digit_of) (s.latches ∷ s.inputs)) in
    let body : stimulus_lines s ++ 46 ∷ 10 ∷ [] ≡ ended_lines (rows_of s ++ codes "." ∷ []) =
    ap (λ bytes. bytes ++ 46 ∷ 10 ∷ []) rows ∙ sym (flat_map-append (λ line. line ++ 10 ∷ []) (rows_of s) (codes "." ∷ [])) in
    ap (λ bytes. 49 ∷ 10 ∷ 106 ∷ bytes) (regrouped (decimal n) (stimulus_lines s) ∙ ap (λ bytes. (decimal n ++ 10 ∷ []) ++ bytes) body)

written_lines : (n : ℕ) (s : Stimulus) → n < 2 ^ 63 → bare (kept_in (answer_text n s)) ≡ answer_lines_of n s
written_lines n s small =
    kept-bare 1 (lines_of (answer_text n s))
    ∙ ap (λ text. kept_lines (lines_of text)) (text_is_lines n s)
    ∙ ap kept_lines (reads_written_lines (answer_lines_of n s) (lines_lack n s small))
    ∙ ap (λ ls. codes "1" ∷ property_line n ∷ ls)
    (filter-append (λ line. not (is_skipped line)) (rows_of s) (codes "." ∷ []) ∙ ap (λ ls. ls ++ codes "." ∷ []) (rows_kept (s.latches ∷ s.inputs)))

pub written_has : (n : ℕ) (s : Stimulus) → n < 2 ^ 63 → HasStimulus n s (answer_text n s)
written_has n s small =
    let spells : Spells s (rows_of s ++ codes "." ∷ []) = (rows_of s, refl, rows_read (s.latches ∷ s.inputs)) in
    (rows_of s ++ codes "." ∷ [], (small, written_lines n s small), spells)

pub written_is_good : (c : Circuit) → WrittenIsGood c
written_is_good c n s positions from small stands short = (stands.has.lasso.property, short, s, written_has n s small, stands)
