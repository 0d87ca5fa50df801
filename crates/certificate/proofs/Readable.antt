-- The lines of a text that begins with given lines, each with its line feed.
use Rattle.std.proofs.Common.{◌≡◌, ℕ, ◌+◌, ◌-◌, ◌≤◌, ◌<◌, Bool, true, false, if◌then◌else◌, List, [], ◌∷◌, ◌++◌, length, take, refl, ap, sym, ◌∙◌, arith, append_assoc, append-nil, length-append}
use Rattle.std.specs.List.{All}
use Rattle.std.specs.Prelude.{nat_le}
use Rattle.std.proofs.lemmas.Bool.{le-leb, lt-leb}
use Rattle.std.proofs.lemmas.List.{take-append-le}
use Rattle.std.proofs.lemmas.List.Elements.{All-head, All-tail}
use Rattle.std.proofs.Math.Seq.{take-append-add}
use Rattle.text_grammar.specs.Pieces.{Lacks, cut_at}
use Rattle.text_grammar.specs.Lines.{lines_of, ended_lines}
use Rattle.text_grammar.proofs.PieceLaws.{cuts_first, cuts_none}
use Rattle.text_grammar.proofs.LineLaws.{first_line, cut_has}
use Rattle.certificate.specs.Lines.{but_last}

-- the first line stands in front of its line feed, and the others follow
spelled_first : (line : List ℕ) (lines : List (List ℕ)) (rest : List ℕ) → ended_lines (line ∷ lines) ++ rest ≡ line ++ 10 ∷ (ended_lines lines ++ rest)
spelled_first line lines rest =
    append_assoc (line ++ 10 ∷ []) (ended_lines lines) rest
    ∙ append_assoc line (10 ∷ []) (ended_lines lines ++ rest)

pub lines_ended : (given : List (List ℕ)) (rest : List ℕ) → All (λ line. Lacks line 10) given → lines_of (ended_lines given ++ rest) ≡ given ++ lines_of rest
lines_ended [] rest lack = refl
lines_ended (line ∷ lines) rest lack =
    first_line line (ended_lines (line ∷ lines) ++ rest) (ended_lines lines ++ rest)
    (record { spelled = spelled_first line lines rest; first = All-head (λ p. Lacks p 10) line lines lack })
    ∙ ap (λ (ls : List (List ℕ)). line ∷ ls) (lines_ended lines rest (All-tail (λ p. Lacks p 10) line lines lack))

pub cut_ended : (given : List (List ℕ)) (rest : List ℕ) → All (λ line. Lacks line 10) given → cut_at 10 (ended_lines given ++ rest) ≡ given ++ cut_at 10 rest
cut_ended [] rest lack = refl
cut_ended (line ∷ lines) rest lack =
    cuts_first 10 line (ended_lines (line ∷ lines) ++ rest) (ended_lines lines ++ rest)
    (record { spelled = spelled_first line lines rest; first = All-head (λ p. Lacks p 10) line lines lack })
    ∙ ap (λ (ls : List (List ℕ)). line ∷ ls) (cut_ended lines rest (All-tail (λ p. Lacks p 10) line lines lack))

but_last_behind : (given : List (List ℕ)) (piece : List ℕ) (pieces : List (List ℕ)) → but_last (given ++ piece ∷ pieces) ≡ given ++ take (length pieces) (piece ∷ pieces)
but_last_behind given piece pieces =
    let size : length (given ++ piece ∷ pieces) - 1 ≡ length given + length pieces = omega (arith, length-append given (piece ∷ pieces)) in
    ap (λ (n : ℕ). take n (given ++ piece ∷ pieces)) size ∙ take-append-add given (piece ∷ pieces) (length pieces)

-- all the lines of a text within the limit, and else the pieces that are ended in its front
abbrev readable_to : ℕ → List ℕ → List (List ℕ)
readable_to most text = if nat_le (length text) most then lines_of text else but_last (cut_at 10 (take most text))

readable_by : (most : ℕ) (text : List ℕ) (test : Bool) → nat_le (length text) most ≡ test → readable_to most text ≡ (if test then lines_of text else but_last (cut_at 10 (take most text)))
readable_by most text test is = ap (λ (b : Bool). if b then lines_of text else but_last (cut_at 10 (take most text))) is

short : (most : ℕ) (text : List ℕ) → length text ≤ most → readable_to most text ≡ lines_of text
short most text within = readable_by most text true (le-leb (length text) most within)

long : (most : ℕ) (text : List ℕ) → most < length text → readable_to most text ≡ but_last (cut_at 10 (take most text))
long most text more = readable_by most text false (lt-leb (length text) most more)

-- the front of a longer text
front_of : (most : ℕ) (front left : List ℕ) → length front ≤ most → take most (front ++ left) ≡ front ++ take (most - length front) left
front_of most front left within =
    let e : most ≡ length front + (most - length front) = omega (arith, within) in
    ap (λ (n : ℕ). take n (front ++ left)) e ∙ take-append-add front left (most - length front)

-- The text begins with the given lines: they are the first that are readable.
abbrev Begins : ℕ → List (List ℕ) → List ℕ → Type 0
Begins most given text = (more : List (List ℕ)) × (readable_to most text ≡ given ++ more)

begins_by : (most : ℕ) (given : List (List ℕ)) (left : List ℕ) → All (λ line. Lacks line 10) given → length (ended_lines given) ≤ most → (test : Bool) → nat_le (length (ended_lines given ++ left)) most ≡ test → Begins most given (ended_lines given ++ left)
begins_by most given left lack within true is =
    (lines_of left, readable_by most (ended_lines given ++ left) true is ∙ lines_ended given left lack)
begins_by most given left lack within false is =
    let rest : List ℕ = take (most - length (ended_lines given)) left in
    let has = cut_has 10 rest in (
      take (length has.1) (has.0 ∷ has.1),
      readable_by most (ended_lines given ++ left) false is
          ∙ ap (λ (bytes : List ℕ). but_last (cut_at 10 bytes)) (front_of most (ended_lines given) left within)
          ∙ ap but_last (cut_ended given rest lack)
          ∙ ap (λ (ps : List (List ℕ)). but_last (given ++ ps)) has.2
          ∙ but_last_behind given has.0 has.1,
    )

pub begins : (most : ℕ) (given : List (List ℕ)) (left : List ℕ) → All (λ line. Lacks line 10) given → length (ended_lines given) ≤ most → Begins most given (ended_lines given ++ left)
begins most given left lack within = begins_by most given left lack within (nat_le (length (ended_lines given ++ left)) most) refl

-- a text within the limit
pub all_readable : (most : ℕ) (text : List ℕ) → length text ≤ most → readable_to most text ≡ lines_of text
all_readable most text within = short most text within

-- the given lines, as a text within the limit, are its readable lines
pub given_readable : (most : ℕ) (given : List (List ℕ)) → All (λ line. Lacks line 10) given → length (ended_lines given) ≤ most → readable_to most (ended_lines given) ≡ given
given_readable most given lack within =
    short most (ended_lines given) within
    ∙ ap lines_of (sym (append-nil (ended_lines given)))
    ∙ lines_ended given [] lack
    ∙ append-nil given

-- what stands behind the limit is not read
pub past_limit : (most : ℕ) (text rest : List ℕ) → most < length text → readable_to most (text ++ rest) ≡ readable_to most text
past_limit most text rest more =
    long most (text ++ rest) (omega (arith, more, length-append text rest))
    ∙ ap (λ (bytes : List ℕ). but_last (cut_at 10 bytes)) (take-append-le most text rest (omega (arith, more)))
    ∙ sym (long most text more)

-- The given lines are all that is readable where the next one is too long.
pub no_more : (most : ℕ) (given : List (List ℕ)) (left : List ℕ) → All (λ line. Lacks line 10) given → length (ended_lines given) ≤ most → most < length (ended_lines given ++ left) → Lacks (take (most - length (ended_lines given)) left) 10 → readable_to most (ended_lines given ++ left) ≡ given
no_more most given left lack within more lacks =
    let rest : List ℕ = take (most - length (ended_lines given)) left in
    long most (ended_lines given ++ left) more
    ∙ ap (λ (bytes : List ℕ). but_last (cut_at 10 bytes)) (front_of most (ended_lines given) left within)
    ∙ ap but_last (cut_ended given rest lack)
    ∙ ap (λ (ps : List (List ℕ)). but_last (given ++ ps)) (cuts_none 10 rest lacks)
    ∙ but_last_behind given rest []
    ∙ append-nil given
