-- Marks as memory has them, after a turn.
use Rattle.std.proofs.Common.{◌≡◌, ℕ, zero, suc, ◌<◌, Bool, true, false, List, [], ◌∷◌, ◌++◌, map, length, take, drop, get_or, set, refl, sym, ap, ◌∙◌, arith}
use Rattle.std.specs.Prelude.{Option, Some, None, ◌==◌, if◌then◌else◌}
use Rattle.wall_store.specs.declared.outcomes.Outcome.{Outcome}
use Rattle.wall_store.specs.declared.outcomes.Posted.{Posted}
use Rattle.wall_store.specs.declared.outcomes.Posted.TheVariants as posts
use Rattle.wall_store.specs.declared.outcomes.Finished.{Finished}
use Rattle.wall_store.specs.declared.outcomes.Finished.TheVariants as ends
use Rattle.wall_ledger.specs.declared.marks.PassMark.{PassMark}
use Rattle.wall_ledger.specs.declared.marks.Shown.TheVariants as shows
use Rattle.wall_ledger.specs.Passes.{Mark, blank, won, closed, Marked, shown_by, shown_of}
use Rattle.wall_ledger.specs.Turns.{closed_unless_won, closing, marks_posted, marks_finished, marks_opened, is_passed}
use Rattle.wall_ledger.specs.Shows.{mark_shown, shut_shown, shut_one, closing_shown, winning_shown, shown_at, shown_posted, shown_finished, shown_opened}
use Rattle.wall_ledger.proofs.Marking.{shut, crown, crowning}

-- ---- a loop that writes each element

mapped_at : {A : Type 0} (f : A → A) (xs : List A) (i : ℕ) (d : A) → i < length xs
    → set (map f (take i xs) ++ drop i xs) i (f (get_or (map f (take i xs) ++ drop i xs) i d)) ≡ map f (take (suc i) xs) ++ drop (suc i) xs
mapped_at f [] i d below = absurd (omega arith)
mapped_at f (x ∷ xs) zero d below = refl
mapped_at {A} f (x ∷ xs) (suc i) d below = ap (λ (l : List A). f x ∷ l) (mapped_at f xs i d (omega arith))

pub mapped_step : {A : Type 0} (f : A → A) (xs zs : List A) (i k : ℕ) (y d : A) → zs ≡ map f (take i xs) ++ drop i xs → i < length xs
    → k ≡ suc i → y ≡ f (get_or zs i d) → set zs i y ≡ map f (take k xs) ++ drop k xs
mapped_step {A} f xs zs i k y d is below next here =
    ap (set zs i) here ∙ (ap (λ (l : List A). set l i (f (get_or l i d))) is
    ∙ (mapped_at f xs i d below ∙ ap (λ (m : ℕ). map f (take m xs) ++ drop m xs) (sym next)))

-- ---- what is shown of marks

shut_shows : (b : Bool) (m : Marked) → mark_shown (shut b m) ≡ shut_one b (mark_shown m)
shut_shows true m = λ i. record { property = m.property; shown = go m.mark i }
  where
    go : (k : Mark) → shown_by (closed_unless_won k) ≡ shut_shown (shown_by k)
    go blank = refl
    go (won o) = refl
    go closed = refl
shut_shows false m = refl

pub closing_shows : (test : ℕ → Bool) (marks : List Marked) → map mark_shown (closing test marks) ≡ closing_shown test (map mark_shown marks)
closing_shows test [] = refl
closing_shows test (m ∷ marks) = λ i. shut_shows (test m.property) m i ∷ closing_shows test marks i

abbrev crown_with : Bool → PassMark → PassMark
crown_with b m = if b then record { property = m.property; shown = shows.Won } else m

crown_shows : (b : Bool) (o : Outcome) (m : Marked) → mark_shown (crown b o m) ≡ crown_with b (mark_shown m)
crown_shows true o m = refl
crown_shows false o m = refl

pub crowning_shows : (j : ℕ) (o : Outcome) (marks : List Marked) → map mark_shown (crowning j o marks) ≡ winning_shown j (map mark_shown marks)
crowning_shows j o [] = refl
crowning_shows j o (m ∷ marks) = λ i. crown_shows (m.property == j) o m i ∷ crowning_shows j o marks i

pub posted_shows : (marks : List Marked) (r : Posted) → map mark_shown (marks_posted marks r) ≡ shown_posted (map mark_shown marks) r
posted_shows marks posts.Closed = closing_shows (λ i. true) marks
posted_shows marks posts.Full = refl
posted_shows marks (posts.Stale n) = refl
posted_shows marks (posts.Appended n) = refl

pub finished_shows : (marks : List Marked) (j : ℕ) (o : Outcome) (r : Finished)
    → map mark_shown (marks_finished marks j o r) ≡ shown_finished (map mark_shown marks) j r
finished_shows marks j o ends.Won = crowning_shows j o marks
finished_shows marks j o ends.Closed = closing_shows (λ i. i == j) marks

pub opened_shows : (marks : List Marked) (least : ℕ) (r : Option ℕ)
    → map mark_shown (marks_opened marks least r) ≡ shown_opened (map mark_shown marks) least r
opened_shows marks least None = closing_shows (λ i. true) marks
opened_shows marks least (Some j) = closing_shows (is_passed least j) marks

pub shown_of_marks : (ms : List Marked) (j : ℕ) → shown_at (map mark_shown ms) j ≡ shown_of ms j
shown_of_marks [] j = refl
shown_of_marks (m ∷ ms) j = ap (λ z. if m.property == j then shown_by m.mark else z) (shown_of_marks ms j)
