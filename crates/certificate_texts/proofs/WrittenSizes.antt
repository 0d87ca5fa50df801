-- How long the text of some lines is, and so how many uses, clauses and lines of proofs it has.
use Rattle.std.proofs.Common.{◌≡◌, ◌≤◌, ℕ, ◌+◌, List, [], ◌∷◌, ◌++◌, map, flat_map, length, ap, ◌∙◌, arith, length-append}
use Rattle.std.specs.List.{All, join_with_byte}
use Rattle.std.proofs.lemmas.Grind.{flat_map-append}
use Rattle.std.proofs.lemmas.List.{length-map}
use Rattle.std.proofs.lemmas.List.Elements.{All-nil, All-cons}
use Rattle.text_grammar.specs.Lines.{ended_lines}
use Rattle.fair_semantics.specs.declared.entries.Use.{Use}
use Rattle.certificate_lines.specs.declared.words.WordLine.TheVariants as lines
use Rattle.certificate_lines.specs.Words.{word_line_text}
use Rattle.certificate_lines.specs.Uses.{use_text, uses_text, written}
use Rattle.certificate_texts.specs.Certificates.{proof_lines}

abbrev pub size : List (List ℕ) → ℕ
size ls = length (ended_lines ls)

pub size_first : (line : List ℕ) (ls : List (List ℕ)) → size (line ∷ ls) ≡ length line + 1 + size ls
size_first line ls = length-append (line ++ 10 ∷ []) (ended_lines ls) ∙ ap (λ n. n + size ls) (length-append line (10 ∷ []))

pub size_both : (ls ms : List (List ℕ)) → size (ls ++ ms) ≡ size ls + size ms
size_both ls ms = ap length (flat_map-append (λ line. line ++ 10 ∷ []) ls ms) ∙ length-append (ended_lines ls) (ended_lines ms)

pub counted : (ls : List (List ℕ)) → length ls ≤ size ls
counted [] = omega arith
counted (line ∷ ls) = let first = size_first line ls in let others = counted ls in omega (arith, first, others)

joined_counted : (fs : List (List ℕ)) → length fs ≤ length (join_with_byte 32 fs) + 1
joined_counted [] = omega arith
joined_counted (f ∷ []) = omega arith
joined_counted (f ∷ g ∷ fs) =
    let others = joined_counted (g ∷ fs) in
    let both = length-append f (32 ∷ join_with_byte 32 (g ∷ fs)) in
    omega (arith, others, both)

pub uses_counted : (uses : List Use) → length uses ≤ length (uses_text (map written uses)) + 1
uses_counted uses =
    let fs : List (List ℕ) = map use_text (map written uses) in
    let count : length fs ≡ length uses = length-map (map written uses) use_text ∙ length-map uses written in
    let most = joined_counted fs in
    omega (arith, count, most)

-- each proof has at most as many lines as the text of all
pub proofs_counted : (most : ℕ) (proofs : List (List (List ℕ))) → size (flat_map proof_lines proofs) ≤ most → All (λ proof. length proof ≤ most) proofs
proofs_counted most [] h = All-nil (λ proof. length proof ≤ most)
proofs_counted most (proof ∷ proofs) h =
    let both = size_both (proof_lines proof) (flat_map proof_lines proofs) in
    let own = size_first (word_line_text (lines.Proof (length proof))) proof in
    let count = counted proof in
    let here : length proof ≤ most = omega (arith, both, own, count, h) in
    All-cons (λ proof. length proof ≤ most) proof proofs here (proofs_counted most proofs (omega (arith, both, h)))
