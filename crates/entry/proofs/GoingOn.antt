-- Views that go on from what was seen.
use Rattle.std.proofs.Common.{◌≡◌, ℕ, ◌-◌, List, ◌++◌, length, map, take, drop, sym, ap, ◌∙◌}
use Rattle.std.specs.declared.sync.Arc.{Arc}
use Rattle.std.proofs.lemmas.List.{length-map, map-append, take_rest, drop-map, drop_at}
use Rattle.entry.specs.CheckedEntries.{CheckedEntry, entry_in, viewed, GoesOnFrom}

-- with those that the view has more, what was seen is the view
pub caught-up : {Z : Type 0} (seen view : List (Arc CheckedEntry Z)) (n : ℕ) → GoesOnFrom (viewed seen) (viewed view) → n ≡ length seen
    → viewed seen ++ viewed (take (length view - n) (drop n view)) ≡ viewed view
caught-up seen view n (more, e) same =
    ap (λ xs. viewed seen ++ viewed xs) (take_rest view n)
    ∙ ap (λ xs. viewed seen ++ xs) (sym (drop-map entry_in n view) ∙ ap (drop n) e ∙ drop_at (viewed seen) more n (length-map seen entry_in ∙ sym same))
    ∙ sym e

-- what was seen, with the handles that are put behind it, in each way in which handles are seen
pub put-behind : {Z A : Type 0} (f : Arc CheckedEntry Z → A) (new seen more view : List (Arc CheckedEntry Z)) (n : ℕ) → new ≡ seen ++ more
    → map f more ≡ map f (take (length view - n) (drop n view)) → n ≡ length seen
    → map f new ≡ map f seen ++ drop (length seen) (map f view)
put-behind f new seen more view n is same count =
    ap (map f) is ∙ map-append f seen more ∙ ap (λ xs. map f seen ++ xs) (same ∙ ap (map f) (take_rest view n) ∙ sym (drop-map f n view))
    ∙ ap (λ k. map f seen ++ drop k (map f view)) count

-- so that the entries are those of the view
pub caught-up-with : {Z : Type 0} (new seen more view : List (Arc CheckedEntry Z)) (n : ℕ) → GoesOnFrom (viewed seen) (viewed view) → new ≡ seen ++ more
    → viewed more ≡ viewed (take (length view - n) (drop n view)) → n ≡ length seen → viewed new ≡ viewed view
caught-up-with new seen more view n on is same count =
    ap (λ xs. viewed xs) is ∙ map-append entry_in seen more ∙ ap (λ xs. viewed seen ++ xs) same ∙ caught-up seen view n on count
