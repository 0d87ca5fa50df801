-- A solver that takes the lemmas of all levels agrees with the frames.
use Rattle.std.proofs.Common.{◌≡◌, ℕ, zero, suc, ◌+◌, ◌-◌, ◌<◌, ◌≤◌, Bool, true, ◌&&◌, ◌||◌, nat_lt, List, [], ◌∷◌, ◌++◌, length, take, drop, get_or, Result, Ok, Err, refl, sym, ap, ap₂, subst, ◌∙◌, inl, inr, arith, append_assoc, append-nil}
use Rattle.std.specs.Result.{OnOk}
use Rattle.std.proofs.lemmas.Bool.{cases_lt, lt-ltb, le-ltb}
use Rattle.std.proofs.lemmas.List.{take_more, map-append, take_all}
use Rattle.std.proofs.lemmas.List.Folds.{list_all-append}
use Rattle.proof_semantics.specs.declared.literals.Lit.{Lit}
use Rattle.proof_semantics.specs.Clauses.{clause_value, clauses_value, values_of}
use Rattle.ic3_frames.specs.Frames.{frame_at, own_lemmas}
use Rattle.ic3_frames.specs.Room.{allowed_by}
use Rattle.ic3_semantics.specs.declared.lemmas.Lemma.{Lemma}
use Rattle.ic3_semantics.specs.Stepping.{Stepping, meets_from}
use Rattle.ic3_loops.specs.Sound.{IsSound, Agree, IsSearch, IsStartCube, KeepsQuestion}
use Rattle.ic3_loops.specs.Propagating.{Narrows}
use Rattle.ic3_loops.specs.Resuming.{placed, all_placed}
use Rattle.ic3_loops.proofs.Sounds.{Levels}

-- ---- the lemmas of all levels

pub next_placed : (level : ℕ) (old lemmas new : List Lemma) (own : List (List Lit)) (place next : ℕ) (c : List Lit) → place < length own
    → next ≡ place + 1 → c ≡ get_or own place [] → lemmas ≡ old ++ placed level (take place own)
    → new ≡ lemmas ++ record { level = level; clause = c } ∷ [] → new ≡ old ++ placed level (take next own)
next_placed level old lemmas new own place next c below is lemma_is so_far pushed =
    let put : List Lit → Lemma = λ x. record { level = level; clause = x } in
    pushed
    ∙ ap₂ (λ ls x. ls ++ put x ∷ []) so_far lemma_is
    ∙ append_assoc old (placed level (take place own)) (put (get_or own place []) ∷ [])
    ∙ ap (λ rest. old ++ rest) (sym (map-append put (take place own) (get_or own place [] ∷ [])))
    ∙ ap (λ xs. old ++ placed level xs) (sym (take_more own place [] below))
    ∙ ap (λ n. old ++ placed level (take n own)) (sym is)

pub whole_placed : (level : ℕ) (old lemmas : List Lemma) (own : List (List Lit)) (place : ℕ) → (place < length own → ⊥)
    → lemmas ≡ old ++ placed level (take place own) → lemmas ≡ old ++ placed level own
whole_placed level old lemmas own place past so_far =
    so_far ∙ ap (λ xs. old ++ placed level xs) (take_all place own (not_below place (length own) past))
  where
    not_below : (i n : ℕ) → (i < n → ⊥) → n ≤ i
    not_below i n h =
        elim (cases_lt i n) [
          | inl below ↦ absurd (h below)
          | inr past ↦ past
        ]

level_placed : (levels : Levels) (k m : ℕ) → k < length levels
    → all_placed m (drop k levels) ≡ placed m (own_lemmas levels k) ++ all_placed (m + 1) (drop (k + 1) levels)
level_placed [] k m below = absurd (omega arith)
level_placed (own ∷ levels) zero m below = refl
level_placed (own ∷ levels) (suc k) m below =
    let next : suc k + 1 ≡ suc (k + 1) = omega arith in
    level_placed levels k m (omega arith)
    ∙ ap (λ n. placed m (own_lemmas levels k) ++ all_placed (m + 1) (drop n (own ∷ levels))) (sym next)

none_placed : (levels : Levels) (k m : ℕ) → length levels ≤ k → all_placed m (drop k levels) ≡ []
none_placed [] zero m past = refl
none_placed [] (suc k) m past = refl
none_placed (own ∷ levels) zero m past = absurd (omega arith)
none_placed (own ∷ levels) (suc k) m past = none_placed levels k m (omega arith)

pub next_levels : (levels : Levels) (front new whole : List Lemma) (k : ℕ) → k < length levels
    → new ≡ front ++ placed k (own_lemmas levels k) → front ++ all_placed k (drop k levels) ≡ whole
    → new ++ all_placed (k + 1) (drop (k + 1) levels) ≡ whole
next_levels levels front new whole k below is so_far =
    ap (λ ls. ls ++ all_placed (k + 1) (drop (k + 1) levels)) is
    ∙ append_assoc front (placed k (own_lemmas levels k)) (all_placed (k + 1) (drop (k + 1) levels))
    ∙ ap (λ rest. front ++ rest) (sym (level_placed levels k k below))
    ∙ so_far

pub whole_levels : (levels : Levels) (front whole : List Lemma) (k : ℕ) → length levels ≤ k
    → front ++ all_placed k (drop k levels) ≡ whole → front ≡ whole
whole_levels levels front whole k past so_far =
    sym (append-nil front) ∙ ap (λ rest. front ++ rest) (sym (none_placed levels k k past)) ∙ so_far

pub first_levels : (levels : Levels) (lemmas : List Lemma) → lemmas ≡ [] → lemmas ++ all_placed 0 (drop 0 levels) ≡ all_placed 0 levels
first_levels levels lemmas none = ap (λ ls. ls ++ all_placed 0 levels) none

-- ---- they agree with the frames

below_level : (n k : ℕ) (s : List Bool) (own : List (List Lit)) → n < k → meets_from (placed n own) k s ≡ true
below_level n k s [] below = refl
below_level n k s (c ∷ own) below =
    ap (λ b. (b || clause_value (values_of s) c) && meets_from (placed n own) k s) (lt-ltb n k below)
    ∙ below_level n k s own below

from_level : (n k : ℕ) (s : List Bool) (own : List (List Lit)) → k ≤ n → meets_from (placed n own) k s ≡ clauses_value (values_of s) own
from_level n k s [] within = refl
from_level n k s (c ∷ own) within =
    ap (λ b. (b || clause_value (values_of s) c) && meets_from (placed n own) k s) (le-ltb n k within)
    ∙ ap (λ b. clause_value (values_of s) c && b) (from_level n k s own within)

frame_none : (k : ℕ) (s : List Bool) → true ≡ allowed_by (frame_at [] k) s
frame_none zero s = refl
frame_none (suc k) s = refl

placed_agree : (n k : ℕ) (levels : Levels) (s : List Bool) → meets_from (all_placed n levels) k s ≡ allowed_by (frame_at levels (k - n)) s
placed_agree n k [] s = frame_none (k - n) s
placed_agree n k (own ∷ levels) s =
    let test : Lemma → Bool = λ lemma. nat_lt lemma.level k || clause_value (values_of s) lemma.clause in
    list_all-append test (placed n own) (all_placed (n + 1) levels)
    ∙ elim (cases_lt n k) [
      | inl below ↦
          let deeper : k - n ≡ suc (k - (n + 1)) = omega (arith, below) in
          ap₂ (λ a b. a && b) (below_level n k s own below) (placed_agree (n + 1) k levels s)
          ∙ ap (λ j. allowed_by (frame_at (own ∷ levels) j) s) (sym deeper)
      | inr within ↦
          let here : k - n ≡ 0 = omega (arith, within) in
          let next : k - (n + 1) ≡ 0 = omega (arith, within) in
          ap₂ (λ a b. a && b) (from_level n k s own within)
          (placed_agree (n + 1) k levels s ∙ ap (λ j. allowed_by (frame_at levels j) s) next)
          ∙ sym (list_all-append (clause_value (values_of s)) own (frame_at levels 0))
          ∙ ap (λ j. allowed_by (frame_at (own ∷ levels) j) s) (sym here)
    ]

pub agrees : (lemmas : List Lemma) (levels : Levels) → lemmas ≡ all_placed 0 levels → Agree lemmas levels
agrees lemmas levels is k s =
    let same : k - 0 ≡ k = omega arith in
    ap (λ ls. meets_from ls k s) is ∙ placed_agree 0 k levels s ∙ ap (λ j. allowed_by (frame_at levels j) s) same

-- ---- a solver of which only lemmas changed, and frames that were opened or kept

pub ready_search : (cube : List Lit) (old new : Stepping) (levels : Levels) → IsStartCube old.question cube → IsSound old.question cube levels
    → KeepsQuestion old new → Agree new.lemmas levels → IsSearch cube new levels
ready_search cube old new levels starts sound kept agree = record {
  starts = subst (λ x. IsStartCube x cube) (sym kept.question) starts;
  sound = subst (λ x. IsSound x cube levels) (sym kept.question) sound;
  agree = agree;
}

pub empty_is : (levels : Levels) → length levels ≡ 0 → levels ≡ []
empty_is [] none = refl
empty_is (own ∷ levels) none = absurd (omega (arith, none))

-- without frames everything is allowed
pub none_narrows : (old new : Levels) → old ≡ [] → Narrows old new
none_narrows old new none k s h = subst (λ levels. allowed_by (frame_at levels k) s ≡ true) (sym none) (sym (frame_none k s))

pub always_ok : {T E : Type 0} (r : Result T E) (P : Type 0) → P → OnOk r P
always_ok (Ok x) P p = p
always_ok (Err e) P p = tt
