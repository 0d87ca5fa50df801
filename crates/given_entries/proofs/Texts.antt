-- The status of a text: its first line that is not skipped.
use Rattle.std.proofs.Common.{◌≡◌, ℕ, ◌+◌, ◌≤◌, Bool, true, false, if◌then◌else◌, List, [], ◌∷◌, length, refl, sym, ap, ◌∙◌, codes}
use Rattle.std.specs.Str.{bytes_eq}
use Rattle.text_grammar.specs.Lines.{lines_of}
use Rattle.stimulus.specs.Texts.{is_skipped}
use Rattle.answer_lines.specs.Left.{most_bytes}
use Rattle.certificate.specs.Lines.{kept_from, bare, readable}
use Rattle.certificate.proofs.Readable.{all_readable}
use Rattle.given_entries.specs.Given.{claims_lasso}

-- ---- the first line that is not skipped

claims_by : (test : Bool) (line : List ℕ) (lines : List (List ℕ)) → is_skipped line ≡ test
    → claims_lasso (line ∷ lines) ≡ (if test then claims_lasso lines else bytes_eq line (codes "1"))
claims_by test line lines is = ap (λ (b : Bool). if b then claims_lasso lines else bytes_eq line (codes "1")) is

kept_by : (test : Bool) (number : ℕ) (line : List ℕ) (lines : List (List ℕ)) → is_skipped line ≡ test
    → kept_from number (line ∷ lines) ≡ (if test then kept_from (number + 1) lines else (number, line) ∷ kept_from (number + 1) lines)
kept_by test number line lines is = ap (λ (b : Bool). if b then kept_from (number + 1) lines else (number, line) ∷ kept_from (number + 1) lines) is

first_kept : (test : Bool) (number : ℕ) (line : List ℕ) (lines : List (List ℕ)) (first : List ℕ) (others : List (List ℕ)) → is_skipped line ≡ test
    → bare (kept_from number (line ∷ lines)) ≡ first ∷ others
    → ((n : ℕ) → bare (kept_from n lines) ≡ first ∷ others → claims_lasso lines ≡ bytes_eq first (codes "1"))
    → claims_lasso (line ∷ lines) ≡ bytes_eq first (codes "1")
first_kept true number line lines first others is kept further =
    claims_by true line lines is ∙ further (number + 1) (sym (ap bare (kept_by true number line lines is)) ∙ kept)
first_kept false number line lines first others is kept further =
    let same : line ∷ bare (kept_from (number + 1) lines) ≡ first ∷ others = sym (ap bare (kept_by false number line lines is)) ∙ kept in
    let one : line ≡ first = cc same in claims_by false line lines is ∙ ap (λ (l : List ℕ). bytes_eq l (codes "1")) one

-- where this is the first of the lines that are not skipped, it tells
pub claims_first : (number : ℕ) (lines : List (List ℕ)) (first : List ℕ) (others : List (List ℕ)) → bare (kept_from number lines) ≡ first ∷ others
    → claims_lasso lines ≡ bytes_eq first (codes "1")
claims_first number [] first others kept = absurd (cc kept)
claims_first number (line ∷ lines) first others kept =
    first_kept (is_skipped line) number line lines first others refl kept (λ n h. claims_first n lines first others h)

-- of a text within the limit all lines are read
pub claims_readable : (text : List ℕ) → length text ≤ most_bytes → claims_lasso (readable text) ≡ claims_lasso (lines_of text)
claims_readable text short = ap claims_lasso (all_readable most_bytes text short)
