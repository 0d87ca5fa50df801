-- Lines that are added to a text, one after the other, and what an answer's text becomes.
use Rattle.std.proofs.Common.{◌≡◌, ℕ, ◌+◌, ◌-◌, List, [], ◌∷◌, ◌++◌, map, length, take, drop, refl, sym, ap, ◌∙◌, arith, append_assoc, append-nil, length-append}
use Rattle.std.specs.Prelude.{◌≤◌, codes, Result, Ok, Err, IfOk}
use Rattle.std.proofs.lemmas.List.{take_all}
use Rattle.aig_semantics.specs.declared.traces.Position.{Position}
use Rattle.text_grammar.specs.Lines.{ended_lines}
use Rattle.stimulus.specs.Texts.{digit_of}
use Rattle.certificate_texts.specs.Adding.{Adds}
use Rattle.certificate_texts.specs.Writing.{property_line, certificate_text}
use Rattle.certificate_texts.specs.declared.certificates.Certificate.{Certificate}
use Rattle.certificate_texts.specs.Certificates.{lines_of_certificate}
use Rattle.certificate_texts.proofs.AddedLines.{both_added}
use Rattle.round_answers.specs.Texts.{rounds_line}
use Rattle.round_answers.specs.Writing.{start_of, run_lines}

-- an answer has a line for its status
pub some_text : (n : ℕ) (certificate : Certificate) (text : List ℕ) → text ≡ certificate_text n certificate → 2 ≤ length text
some_text n certificate text is =
    let behind : List ℕ = ended_lines (property_line n ∷ lines_of_certificate certificate) in
    let whole : length text ≡ length (codes "0" ++ 10 ∷ []) + length behind = ap length is ∙ length-append (codes "0" ++ 10 ∷ []) behind in
    let front : length (codes "0" ++ 10 ∷ []) ≡ 2 = refl in
    omega (arith, whole, front)

tail_whole : (xs : List ℕ) → take (length xs - 2) (drop 2 xs) ≡ drop 2 xs
tail_whole [] = refl
tail_whole (x ∷ []) = refl
tail_whole (x ∷ y ∷ xs) = take_all (length (x ∷ y ∷ xs) - 2) xs (omega arith)

-- the line of the rounds, and the text behind the status
pub first_behind : (k : ℕ) (answer mid new : List ℕ) → Adds [] mid (rounds_line k ∷ []) → new ≡ mid ++ take (length answer - 2) (drop 2 answer)
    → new ≡ rounds_line k ++ 10 ∷ drop 2 answer
first_behind k answer mid new first second =
    second
    ∙ ap (λ xs. mid ++ xs) (tail_whole answer)
    ∙ ap (λ xs. xs ++ drop 2 answer) (first ∙ append-nil (rounds_line k ++ 10 ∷ []))
    ∙ append_assoc (rounds_line k) (10 ∷ []) (drop 2 answer)

-- so the lines of the certificate stand behind those of the rounds and the property
pub first_replaced : (k n : ℕ) (certificate : Certificate) (answer text : List ℕ) → answer ≡ certificate_text n certificate
    → text ≡ rounds_line k ++ 10 ∷ drop 2 answer → text ≡ ended_lines (rounds_line k ∷ property_line n ∷ lines_of_certificate certificate)
first_replaced k n certificate answer text is behind =
    behind ∙ ap (λ xs. rounds_line k ++ 10 ∷ drop 2 xs) is
    ∙ sym (append_assoc (rounds_line k) (10 ∷ []) (ended_lines (property_line n ∷ lines_of_certificate certificate)))

-- and so where the text may have failed
pub replaced_if : {A E : Type 0} (r : Result A E) (items : A → List ℕ) (k n : ℕ) (certificate : Certificate) (answer : List ℕ) → answer ≡ certificate_text n certificate
    → IfOk r (λ text. items text ≡ rounds_line k ++ 10 ∷ drop 2 answer) → IfOk r (λ text. items text ≡ ended_lines (rounds_line k ∷ property_line n ∷ lines_of_certificate certificate))
replaced_if (Ok text) items k n certificate answer is h = first_replaced k n certificate answer (items text) is h
replaced_if (Err e) items k n certificate answer is h = tt

-- ---- a run

rows_of : (run : List Position) → map (map digit_of) (map (λ (p : Position). p.inputs) run) ≡ map (λ (p : Position). map digit_of p.inputs) run
rows_of [] = refl
rows_of (p ∷ run) = ap (λ rows. map digit_of p.inputs ∷ rows) (rows_of run)

-- the line of a run, its lines, and the dot
pub run_added : (run : List Position) (old first second third fourth : List ℕ) → Adds old first (codes "run" ∷ []) → Adds first second (map digit_of (start_of run) ∷ [])
    → Adds second third (map (λ (p : Position). map digit_of p.inputs) run) → Adds third fourth (codes "." ∷ []) → Adds old fourth (codes "run" ∷ run_lines run)
run_added run old first second third fourth a b c d =
    let inputs : List (List ℕ) = map (λ (p : Position). map digit_of p.inputs) run in
    let front : Adds old second (codes "run" ∷ map digit_of (start_of run) ∷ []) = both_added old first second (codes "run" ∷ []) (map digit_of (start_of run) ∷ []) _ a b refl in
    let rows : Adds old third (codes "run" ∷ map digit_of (start_of run) ∷ inputs) = both_added old second third (codes "run" ∷ map digit_of (start_of run) ∷ []) inputs _ front c refl in
    both_added old third fourth (codes "run" ∷ map digit_of (start_of run) ∷ inputs) (codes "." ∷ []) _ rows d
    (ap (λ ls. codes "run" ∷ map digit_of (start_of run) ∷ (ls ++ codes "." ∷ [])) (rows_of run))

-- all lines of the text of a run
pub reached_added : (k n : ℕ) (run : List Position) (first second third : List ℕ) → Adds [] first (rounds_line k ∷ []) → Adds first second (property_line n ∷ [])
    → Adds second third (codes "run" ∷ run_lines run) → Adds [] third (rounds_line k ∷ property_line n ∷ codes "run" ∷ run_lines run)
reached_added k n run first second third a b c =
    let front : Adds [] second (rounds_line k ∷ property_line n ∷ []) = both_added [] first second (rounds_line k ∷ []) (property_line n ∷ []) _ a b refl in
    both_added [] second third (rounds_line k ∷ property_line n ∷ []) (codes "run" ∷ run_lines run) _ front c refl
