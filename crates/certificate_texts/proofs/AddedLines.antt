-- Lines that are added to a text, one after the other.
use Rattle.std.proofs.Common.{◌≡◌, ℕ, List, [], ◌∷◌, ◌++◌, flat_map, refl, sym, ap, ◌∙◌, append_assoc}
use Rattle.std.proofs.lemmas.Grind.{flat_map-append}
use Rattle.text_grammar.specs.Lines.{ended_lines}
use Rattle.certificate_lines.specs.Words.{word_line_text}
use Rattle.certificate_lines.specs.declared.words.WordLine.TheVariants as lines
use Rattle.certificate_texts.specs.Certificates.{Certificate, entry_lines, refutation_lines}
use Rattle.certificate_texts.specs.Writing.{certificate_text, in_version_two}
use Rattle.certificate_texts.specs.Adding.{Adds, head_lines, last_lines}

pub both_added : (old mid new : List ℕ) (ls ms all : List (List ℕ)) → Adds old mid ls → Adds mid new ms → all ≡ ls ++ ms → Adds old new all
both_added old mid new ls ms all first second is =
    second
    ∙ ap (λ text. text ++ ended_lines ms) first
    ∙ append_assoc old (ended_lines ls) (ended_lines ms)
    ∙ ap (λ text. old ++ text) (sym (flat_map-append (λ line. line ++ 10 ∷ []) ls ms) ∙ ap ended_lines (sym is))

-- a whole certificate
pub certificate_added : (n : ℕ) (certificate : Certificate) (first second third : List ℕ) → Adds [] first (head_lines n) → Adds first second (flat_map entry_lines certificate.entries)
    → Adds second third (last_lines certificate.uses certificate.proof) → third ≡ certificate_text n (in_version_two certificate)
certificate_added n certificate first second third head entries last =
    let es : List (List ℕ) = flat_map entry_lines certificate.entries in
    let behind : List (List ℕ) = last_lines certificate.uses certificate.proof in
    let front : Adds [] second (head_lines n ++ es) = both_added [] first second (head_lines n) es _ head entries refl in
    let all : Adds [] third ((head_lines n ++ es) ++ behind) = both_added [] second third (head_lines n ++ es) behind _ front last refl in
    all
    ∙ ap ended_lines (append_assoc (head_lines n) es behind
    ∙ ap (λ ls. head_lines n ++ ls) (sym (append_assoc es (refutation_lines (in_version_two certificate)) (word_line_text lines.End ∷ []))))
