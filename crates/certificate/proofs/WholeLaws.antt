-- The lines of an answer that are kept while it is read.
use Rattle.std.proofs.Common.{◌≡◌, ℕ, ◌+◌, ◌≤◌, Bool, true, false, not, List, [], ◌∷◌, ◌++◌, sym, ap, ◌∙◌, Option, Result, Ok, Err}
use Rattle.std.specs.Prelude.{IfOk}
use Rattle.std.proofs.lemmas.List.Elements.{filter-append}
use Rattle.aig_semantics.specs.declared.traces.Lasso.{Lasso as LassoOf}
use Rattle.aig_semantics.specs.Circuits.{Circuit}
use Rattle.answer_lines.specs.Left.{Reading, at_start, left_of, most_bytes, Took}
use Rattle.edge.specs.Told.{IfTold}
use Rattle.text_grammar.specs.Lines.{lines_of}
use Rattle.text_grammar.specs.Pieces.{Lacks}
use Rattle.stimulus.specs.Texts.{is_skipped, kept_lines}
use Rattle.certificate.specs.declared.ends.Accepted.{Accepted}
use Rattle.certificate.specs.declared.ends.AnswerEnd.{AnswerEnd}
use Rattle.certificate.specs.Ends.{IsGoodAtEnd}
use Rattle.certificate.specs.Lassos.{IsLassoAtEnd}
use Rattle.certificate.specs.Lines.{kept_from}
use Rattle.certificate.specs.Reading.{State, Status, read_lines}
use Rattle.certificate.specs.Whole.{IsReadWhole}
use Rattle.certificate.proofs.GoodRead.{good_from_reads}
use Rattle.certificate.proofs.Reached.{Reached, reached_start, reached_next, next_given, text_at_end}
use Rattle.certificate.proofs.WrittenGood.{kept-bare}

-- the lines that were given led to the state, and where lines are kept these are those that are not skipped
pub record Keeping (c : Circuit) (told : Option (List ℕ)) (r : Reading) (s : State) (number : ℕ) (keeps : Bool) (kept : List (List ℕ)) : Type 0 where
  pub whole : Reached c told r s number
  pub lines : keeps ≡ true → kept ≡ kept_lines whole.given

pub keep_start : (c : Circuit) (told : Option (List ℕ)) (keeps : Bool) (kept : List (List ℕ)) → kept ≡ [] → Keeping c told at_start Status 1 keeps kept
unfolding reached_start
keep_start c told keeps kept none = record { whole = reached_start c told; lines = λ e. none }

pub keep_next : (c : Circuit) (told : Option (List ℕ)) (old new : Reading) (s t : State) (number : ℕ) (keeps : Bool) (kept more : List (List ℕ)) → Keeping c told old s number keeps kept
    → old.last ≡ false → Took told old new → Lacks new.line 10 → read_lines c s (kept_from number (new.line ∷ [])) ≡ Ok t
    → (keeps ≡ true → more ≡ kept ++ kept_lines (new.line ∷ [])) → Keeping c told new t (number + 1) keeps more
keep_next c told old new s t number keeps kept more k goes_on took lacks read one = record {
  whole = reached_next c told old new s t number k.whole goes_on took lacks read;
  lines = λ e.
      one e ∙ ap (λ (ls : List (List ℕ)). ls ++ kept_lines (new.line ∷ [])) (k.lines e)
      ∙ sym (filter-append (λ line. not (is_skipped line)) k.whole.given (new.line ∷ []))
      ∙ sym (ap kept_lines (next_given c told old new s t number k.whole goes_on took lacks read));
}

pub whole_at_end : (c : Circuit) (told : Option (List ℕ)) (r : Reading) (s : State) (number : ℕ) (keeps : Bool) (kept : List (List ℕ)) (lasso : Option LassoOf)
    (result : Result Accepted AnswerEnd) → Keeping c told r s number keeps kept → r.taken ≤ most_bytes → IfTold told (λ text. left_of r text ≡ [])
    → IfOk result (λ accepted. IsGoodAtEnd c s accepted) → IfOk result (λ accepted. IsLassoAtEnd s accepted lasso)
    → IfOk result (λ accepted. keeps ≡ true → IsReadWhole c told accepted kept s lasso)
whole_at_end c told r s number keeps kept lasso (Err end) k most none good at = tt
whole_at_end c told r s number keeps kept lasso (Ok accepted) k most none good at =
    let found = text_at_end c told r s number k.whole most none in
    λ e. (
      found.0,
      found.1,
      good_from_reads c found.0 accepted (found.2.1, s, found.2.0, good),
      k.lines e ∙ ap kept_lines (sym found.2.2) ∙ sym (kept-bare 1 (lines_of found.0)),
      found.2.0,
      at,
    )
