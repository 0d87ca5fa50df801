-- What is written of a stimulus is read again.
use Rattle.std.proofs.Common.{◌≡◌, ◌≢◌, Bool, true, false, List, [], ◌∷◌, ◌++◌, map, refl, sym, ap, ◌∙◌, Some, All, arith}
use Rattle.std.proofs.lemmas.List.Folds.{flat_map-map}
use Rattle.std.proofs.lemmas.List.Elements.{All-cons, All-nil}
use Rattle.aig_semantics.specs.declared.traces.Stimulus.{Stimulus}
use Rattle.text_grammar.specs.Pieces.{Lacks}
use Rattle.text_grammar.specs.Lines.{lines_of, ended_lines}
use Rattle.text_grammar.proofs.LineLaws.{reads_written_lines}
use Rattle.stimulus.specs.Texts.{value_of, is_skipped, row_values, present, kept_lines, IsTextOf, digit_of, stimulus_lines}

digits_lack : (values : List Bool) → Lacks (map digit_of values) 10
digits_lack [] = All-nil _
digits_lack (false ∷ values) = All-cons (λ b. b ≢ 10) 48 (map digit_of values) (λ e. omega arith) (digits_lack values)
digits_lack (true ∷ values) = All-cons (λ b. b ≢ 10) 49 (map digit_of values) (λ e. omega arith) (digits_lack values)

pub rows_lack : (rows : List (List Bool)) → All (λ line. Lacks line 10) (map (map digit_of) rows)
rows_lack [] = All-nil _
rows_lack (row ∷ rows) = All-cons (λ line. Lacks line 10) (map digit_of row) (map (map digit_of) rows) (digits_lack row) (rows_lack rows)

pub digits_kept : (row : List Bool) → is_skipped (map digit_of row) ≡ false
digits_kept [] = refl
digits_kept (false ∷ row) = refl
digits_kept (true ∷ row) = refl

pub rows_kept : (rows : List (List Bool)) → kept_lines (map (map digit_of) rows) ≡ map (map digit_of) rows
rows_kept [] = refl
rows_kept (row ∷ rows) = rw (digits_kept row) (ap (λ lines. map digit_of row ∷ lines) (rows_kept rows))

digits_read : (row : List Bool) → map value_of (map digit_of row) ≡ map Some row
digits_read [] = refl
digits_read (false ∷ row) = ap (λ values. Some false ∷ values) (digits_read row)
digits_read (true ∷ row) = ap (λ values. Some true ∷ values) (digits_read row)

pub rows_read : (rows : List (List Bool)) → row_values (map (map digit_of) rows) ≡ present rows
rows_read [] = refl
rows_read (row ∷ rows) =
    let first = digits_read row in let others = rows_read rows in cc

pub written_read : (s : Stimulus) → IsTextOf s (stimulus_lines s)
written_read s =
    let rows = s.latches ∷ s.inputs in
    let text : stimulus_lines s ≡ ended_lines (map (map digit_of) rows) = sym (flat_map-map (λ line. line ++ 10 ∷ []) (map digit_of) rows) in
    ap (λ bytes. row_values (kept_lines (lines_of bytes))) text
    ∙ ap (λ lines. row_values (kept_lines lines)) (reads_written_lines (map (map digit_of) rows) (rows_lack rows))
    ∙ ap row_values (rows_kept rows)
    ∙ rows_read rows
