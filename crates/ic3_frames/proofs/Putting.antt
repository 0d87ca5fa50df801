-- A lemma is put into a level: no lemma stands twice, and the levels that are written one by one.
use Rattle.std.proofs.Common.{◌≡◌, ◌≢◌, ℕ, zero, suc, ◌+◌, ◌<◌, ◌≤◌, true, false, List, [], ◌∷◌, ◌++◌, length, filter, set, get_or, refl, sym, ap, ◌∙◌, subst, inl, inr, add-one, arith}
use Rattle.std.proofs.lemmas.Bool.{cases_Bool, false≢true}
use Rattle.proof_semantics.specs.declared.literals.Lit.{Lit}
use Rattle.ic3_frames.specs.Frames.{same_clause, has_clause, own_lemmas, frame_at, stays, put_from, put_at, with_lemma, HasOwn}
use Rattle.ic3_frames.specs.Kept.{times, StandOnce, taken_out}
use Rattle.ic3_frames.proofs.Times.{same-same, same-is, times-append, times-none, has-none, times-filtered, times-stays}

abbrev Levels : Type 0
Levels = List (List (List Lit))

times-put-same : (m : ℕ) (c : List Lit) (levels : Levels) (k : ℕ) → times c (frame_at levels 0) ≤ 1
    → has_clause (frame_at levels k) c ≡ false → times c (frame_at (put_from m levels k c) 0) ≤ 1
times-put-same m c [] k h none = h
times-put-same m c (own ∷ levels) zero h none =
    let rest : List (List Lit) = frame_at levels 0 in
    let kept : List (List Lit) = filter (stays m c) own in
    let nothing : times c (own ++ rest) ≡ 0 = times-none c (own ++ rest) none in
    let e = times-append c own rest in
    let f = times-append c (kept ++ c ∷ []) rest in
    let g = times-append c kept (c ∷ []) in
    let out = times-stays m c own in
    let one : times c (c ∷ []) ≡ 1 = rw (same-same c) refl in
    omega arith
times-put-same m c (own ∷ levels) (suc k) h none =
    let e = times-append c own (frame_at levels 0) in
    let f = times-append c (filter (stays m c) own) (frame_at (put_from (suc m) levels k c) 0) in
    let out = times-stays m c own in
    let later = times-put-same (suc m) c levels k (omega arith) none in
    omega arith

times-put-other : (m : ℕ) (c d : List Lit) (levels : Levels) (k : ℕ) → same_clause d c ≡ false
    → times d (frame_at (put_from m levels k c) 0) ≤ times d (frame_at levels 0)
times-put-other m c d [] k other = omega arith
times-put-other m c d (own ∷ levels) zero other =
    let rest : List (List Lit) = frame_at levels 0 in
    let kept : List (List Lit) = filter (stays m c) own in
    let e = times-append d own rest in
    let f = times-append d (kept ++ c ∷ []) rest in
    let g = times-append d kept (c ∷ []) in
    let fewer = times-filtered (stays m c) d own in
    let none : times d (c ∷ []) ≡ 0 = rw other refl in
    omega arith
times-put-other m c d (own ∷ levels) (suc k) other =
    let e = times-append d own (frame_at levels 0) in
    let f = times-append d (filter (stays m c) own) (frame_at (put_from (suc m) levels k c) 0) in
    let fewer = times-filtered (stays m c) d own in
    let later = times-put-other (suc m) c d levels k other in
    omega arith

pub once-with : (levels : Levels) (k : ℕ) (c : List Lit) → StandOnce levels → StandOnce (with_lemma levels k c)
once-with levels k c once d =
    elim (cases_Bool (has_clause (frame_at levels k) c)) [
      | inl there ↦ rw there (once d)
      | inr absent ↦ rw absent (once-put absent)
    ]
  where
    once-put : has_clause (frame_at levels k) c ≡ false → times d (frame_at (put_at levels k c) 0) ≤ 1
    once-put absent =
        elim (cases_Bool (same_clause d c)) [
          | inl same ↦
              let is : c ≡ d = sym (same-is d c same) in
              subst (λ x. times x (frame_at (put_at levels k c) 0) ≤ 1) is (times-put-same 0 c levels k (once c) absent)
          | inr other ↦ let e = times-put-other 0 c d levels k other in let h = once d in omega arith
        ]

-- ---- the levels that are written one by one

pub put-taken : (n : ℕ) (levels : Levels) (k m : ℕ) (c : List Lit) → n + k ≡ m → k < length levels
    → set (taken_out n levels k c) k (filter (stays m c) (own_lemmas levels k) ++ c ∷ []) ≡ put_from n levels k c
put-taken n [] k m c is below = absurd (omega arith)
put-taken n (own ∷ levels) zero m c is below =
    let same : m ≡ n = omega arith in
    ap (λ i. (filter (stays i c) own ++ c ∷ []) ∷ levels) same
put-taken n (own ∷ levels) (suc k) m c is below =
    ap (λ later. filter (stays n c) own ∷ later) (put-taken (suc n) levels k m c (omega arith) (omega arith))

pub taken-more : (n : ℕ) (levels : Levels) (k m : ℕ) (c : List Lit) → n + k ≡ m → k < length levels
    → taken_out n levels (k + 1) c ≡ set (taken_out n levels k c) k (filter (stays m c) (own_lemmas levels k))
taken-more n [] k m c is below = absurd (omega arith)
taken-more n (own ∷ levels) zero m c is below =
    let same : n ≡ m = omega arith in
    ap (λ i. filter (stays i c) own ∷ levels) same
taken-more n (own ∷ levels) (suc k) m c is below =
    let next : taken_out n (own ∷ levels) (suc k + 1) c ≡ taken_out n (own ∷ levels) (suc (k + 1)) c =
    ap (λ i. taken_out n (own ∷ levels) i c) (let e : suc k + 1 ≡ suc (k + 1) = omega arith in e)
    in
    next ∙ ap (λ later. filter (stays n c) own ∷ later) (taken-more (suc n) levels k m c (omega arith) (omega arith))

-- the level itself, and those above, stay
pub taken-above : (n : ℕ) (levels : Levels) (k i : ℕ) (c : List Lit) → k ≤ i → own_lemmas (taken_out n levels k c) i ≡ own_lemmas levels i
taken-above n levels zero i c above = refl
taken-above n [] (suc k) i c above = refl
taken-above n (own ∷ levels) (suc k) zero c above = absurd (omega arith)
taken-above n (own ∷ levels) (suc k) (suc i) c above = taken-above (suc n) levels k i c (omega arith)

-- ---- frames that differ

pub frame-own : (levels : Levels) (k : ℕ) → k < length levels → frame_at levels k ≡ own_lemmas levels k ++ frame_at levels (k + 1)
frame-own [] k below = absurd (omega arith)
frame-own (own ∷ levels) zero below = refl
frame-own (own ∷ levels) (suc k) below =
    let next : suc k + 1 ≡ suc (k + 1) = omega arith in
    frame-own levels k (omega arith) ∙ ap (λ n. own_lemmas levels k ++ frame_at (own ∷ levels) n) (sym next)

pub same-frames : (levels : Levels) (k : ℕ) → k < length levels → own_lemmas levels k ≡ [] → frame_at levels k ≡ frame_at levels (k + 1)
same-frames levels k below none = frame-own levels k below ∙ ap (λ own. own ++ frame_at levels (k + 1)) none

times-frame : (c : List Lit) (levels : Levels) (k : ℕ) → times c (frame_at levels k) ≤ times c (frame_at levels 0)
times-frame c [] zero = omega arith
times-frame c [] (suc k) = omega arith
times-frame c (own ∷ levels) zero = omega arith
times-frame c (own ∷ levels) (suc k) =
    let later = times-frame c levels k in
    let e = times-append c own (frame_at levels 0) in
    omega arith

own-is-own : (levels : Levels) (k : ℕ) (own : List (List Lit)) → own_lemmas levels k ≡ own → own_lemmas levels k ≢ []
    → StandOnce levels → k < length levels → HasOwn levels k
own-is-own levels k [] e some once below = absurd (some e)
own-is-own levels k (c ∷ own) e some once below =
    let next : List (List Lit) = frame_at levels (k + 1) in
    let is : frame_at levels k ≡ (c ∷ own) ++ next = frame-own levels k below ∙ ap (λ own. own ++ next) e in
    let here : has_clause ((c ∷ own) ++ next) c ≡ true = rw (same-same c) refl in
    let one : times c (c ∷ []) ≡ 1 = rw (same-same c) refl in
    let count : times c ((c ∷ own) ++ next) ≡ times c (c ∷ own) + times c next = times-append c (c ∷ own) next in
    let first : times c (c ∷ own) ≡ times c (c ∷ []) + times c own = times-append c (c ∷ []) own in
    let most = times-frame c levels k in
    let all = once c in
    let whole : times c (frame_at levels k) ≡ times c ((c ∷ own) ++ next) = ap (times c) is in
    let none : times c next ≡ 0 = omega arith in
    (c, (ap (λ xs. has_clause xs c) is ∙ here, has-none c next none))

pub has-own : (levels : Levels) (k : ℕ) → own_lemmas levels k ≢ [] → StandOnce levels → k < length levels → HasOwn levels k
has-own levels k some once below = own-is-own levels k (own_lemmas levels k) refl some once below

pub some-own : (levels : Levels) (k : ℕ) → k < length levels → HasOwn levels k → own_lemmas levels k ≢ []
some-own levels k below (c, (here, absent)) none =
    false≢true (sym absent ∙ ap (λ xs. has_clause xs c) (sym (same-frames levels k below none)) ∙ here)

-- ---- a lemma that a level has, the next has not

-- the clause at a place stands in the list
times-at : (own : List (List Lit)) (place : ℕ) → place < length own → 1 ≤ times (get_or own place []) own
times-at [] place inside = absurd (omega arith)
times-at (c ∷ own) zero inside =
    let one : times c (c ∷ own) ≡ 1 + times c own = rw (same-same c) refl in
    omega arith
times-at (c ∷ own) (suc place) inside = let later = times-at own place (omega arith) in omega arith

-- how often a lemma of a level stands in the frame, without the levels above
times-own : (c : List Lit) (levels : Levels) (k : ℕ) → k < length levels
    → times c (own_lemmas levels k) + times c (frame_at levels (suc k)) ≤ times c (frame_at levels 0)
times-own c [] k below = absurd (omega arith)
times-own c (own ∷ levels) zero below = let e = times-append c own (frame_at levels 0) in omega arith
times-own c (own ∷ levels) (suc k) below =
    let later = times-own c levels k (omega arith) in
    let e = times-append c own (frame_at levels 0) in
    omega arith

pub with-moved : (levels : Levels) (k place : ℕ) → StandOnce levels → k < length levels → place < length (own_lemmas levels k)
    → with_lemma levels (k + 1) (get_or (own_lemmas levels k) place []) ≡ put_at levels (k + 1) (get_or (own_lemmas levels k) place [])
with-moved levels k place once below inside =
    let c : List Lit = get_or (own_lemmas levels k) place [] in
    let some = times-at (own_lemmas levels k) place inside in
    let there = times-own c levels k below in
    let most = once c in
    let absent : has_clause (frame_at levels (suc k)) c ≡ false = has-none c (frame_at levels (suc k)) (omega arith) in
    let next : has_clause (frame_at levels (k + 1)) c ≡ false = ap (λ n. has_clause (frame_at levels n) c) (add-one k) ∙ absent in
    rw next refl
