-- The laws of the lines of a text.
use Rattle.std.proofs.Common.{◌≡◌, ◌≢◌, ℕ, ◌⊎◌, inl, inr, Bool, true, false, cond, eqb, List, [], ◌∷◌, ◌++◌, refl, ap, sym, ◌∙◌, append_assoc, append-nil, subst}
use Rattle.std.specs.List.{join_with_byte, onto_first, All}
use Rattle.std.proofs.lemmas.List.Elements.{All-cons, All-head, All-tail, All-nil}
use Rattle.text_grammar.specs.Pieces.{Lacks, cut_at}
use Rattle.text_grammar.specs.Lines.{unended_line, lines_of_pieces, lines_of, ended_lines}
use Rattle.text_grammar.specs.Laws.{FirstLine, LastLine, LinesLackLineFeed, ReadsWrittenLines, LinesAreText}
use Rattle.text_grammar.proofs.PieceLaws.{joins_pieces, pieces_lack_byte, cuts_first, cuts_none}

-- the pieces are a first one and others
abbrev pub HasFirst : List (List ℕ) → Type 0
HasFirst ps = (piece : List ℕ) × (pieces : List (List ℕ)) × (ps ≡ piece ∷ pieces)

onto_first_has : (b : ℕ) (ps : List (List ℕ)) → HasFirst (onto_first b ps)
onto_first_has b [] = (b ∷ [], [], refl)
onto_first_has b (piece ∷ pieces) = (b ∷ piece, pieces, refl)

step_has : (b : ℕ) (ps : List (List ℕ)) (test : Bool) → HasFirst (cond test ([] ∷ ps) (onto_first b ps))
step_has b ps true = ([], ps, refl)
step_has b ps false = onto_first_has b ps

pub cut_has : (byte : ℕ) (bytes : List ℕ) → HasFirst (cut_at byte bytes)
cut_has byte [] = ([], [], refl)
cut_has byte (b ∷ bytes) = step_has b (cut_at byte bytes) (eqb b byte)

-- a piece in front of others is a line
piece_line : (line : List ℕ) (ps : List (List ℕ)) → HasFirst ps → lines_of_pieces (line ∷ ps) ≡ line ∷ lines_of_pieces ps
piece_line line [] has = absurd (cc has.2)
piece_line line (piece ∷ pieces) has = refl

pub first_line : FirstLine
first_line line bytes rest ended =
    ap lines_of_pieces (cuts_first 10 line bytes rest ended) ∙ piece_line line (cut_at 10 rest) (cut_has 10 rest)

unended_is : (bytes : List ℕ) → bytes ≢ [] → unended_line bytes ≡ bytes ∷ []
unended_is [] some = absurd (some refl)
unended_is (b ∷ bytes) some = refl

pub last_line : LastLine
last_line bytes lacks some = ap lines_of_pieces (cuts_none 10 bytes lacks) ∙ unended_is bytes some

unended_lacks : (piece : List ℕ) → Lacks piece 10 → All (λ line. Lacks line 10) (unended_line piece)
unended_lacks [] lacks = All-nil _
unended_lacks (b ∷ bytes) lacks = All-cons (λ line. Lacks line 10) (b ∷ bytes) [] lacks (All-nil _)

lines_lack : (ps : List (List ℕ)) → All (λ p. Lacks p 10) ps → All (λ line. Lacks line 10) (lines_of_pieces ps)
lines_lack [] lack = All-nil _
lines_lack (piece ∷ []) lack = unended_lacks piece (All-head (λ p. Lacks p 10) piece [] lack)
lines_lack (piece ∷ next ∷ pieces) lack =
    All-cons (λ p. Lacks p 10) piece (lines_of_pieces (next ∷ pieces)) (All-head (λ p. Lacks p 10) piece (next ∷ pieces) lack)
    (lines_lack (next ∷ pieces) (All-tail (λ p. Lacks p 10) piece (next ∷ pieces) lack))

pub lines_lack_line_feed : LinesLackLineFeed
lines_lack_line_feed bytes = lines_lack (cut_at 10 bytes) (pieces_lack_byte 10 bytes)

pub reads_written_lines : ReadsWrittenLines
reads_written_lines [] lack = refl
reads_written_lines (line ∷ lines) lack =
    first_line line (ended_lines (line ∷ lines)) (ended_lines lines)
    (record { spelled = append_assoc line (10 ∷ []) (ended_lines lines); first = All-head (λ p. Lacks p 10) line lines lack })
    ∙ ap (λ ls. line ∷ ls) (reads_written_lines lines (All-tail (λ p. Lacks p 10) line lines lack))

-- the ended lines are the text of the pieces, or lack its last line feed
abbrev EndsOf : List ℕ → List ℕ → Type 0
EndsOf ended bytes = (ended ≡ bytes) ⊎ (ended ≡ bytes ++ 10 ∷ [])

unended_ends : (piece : List ℕ) → EndsOf (ended_lines (unended_line piece)) piece
unended_ends [] = inl refl
unended_ends (b ∷ bytes) = inr (append-nil ((b ∷ bytes) ++ 10 ∷ []))

more_ends : (piece ended bytes : List ℕ) → EndsOf ended bytes → EndsOf ((piece ++ 10 ∷ []) ++ ended) (piece ++ 10 ∷ bytes)
more_ends piece ended bytes (inl same) = inl (append_assoc piece (10 ∷ []) ended ∙ ap (λ e. piece ++ 10 ∷ e) same)
more_ends piece ended bytes (inr fed) =
    inr (append_assoc piece (10 ∷ []) ended ∙ ap (λ e. piece ++ 10 ∷ e) fed ∙ sym (append_assoc piece (10 ∷ bytes) (10 ∷ [])))

pieces_end : (piece : List ℕ) (pieces : List (List ℕ)) → EndsOf (ended_lines (lines_of_pieces (piece ∷ pieces))) (join_with_byte 10 (piece ∷ pieces))
pieces_end piece [] = unended_ends piece
pieces_end piece (next ∷ pieces) = more_ends piece _ _ (pieces_end next pieces)

pub lines_are_text : LinesAreText
lines_are_text bytes =
    let has = cut_has 10 bytes in
    let joined : join_with_byte 10 (has.0 ∷ has.1) ≡ bytes = ap (join_with_byte 10) (sym has.2) ∙ joins_pieces 10 bytes in
    let P : List ℕ → Type 0 = λ text. EndsOf (ended_lines (lines_of bytes)) text in
    let Q : List (List ℕ) → Type 0 = λ ps. EndsOf (ended_lines (lines_of_pieces ps)) (join_with_byte 10 (has.0 ∷ has.1)) in
    subst P joined (subst Q (sym has.2) (pieces_end has.0 has.1))
