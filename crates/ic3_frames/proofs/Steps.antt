-- Steps of the code over sets of lemmas.
use Rattle.std.proofs.Common.{◌≡◌, ◌≢◌, ℕ, ◌+◌, ◌-◌, ◌<◌, ◌≤◌, Bool, true, false, Result, Ok, Err, List, [], ◌∷◌, ◌++◌, length, filter, length-drop, take, drop, set, get_or, Option, Some, None, refl, sym, ap, ◌∙◌, subst, inl, inr, arith, below_more, add-zero, get_or-set_other, get_or-set_same}
use Rattle.std.specs.Prelude.{IfNone, IfSome}
use Rattle.std.specs.HashSet.{HashSet}
use Rattle.std.proofs.lemmas.Bool.{cases_lt}
use Rattle.std.proofs.lemmas.List.{take_all, drop-map, drop-drop, drop-set-lt, map-set, length-map, get_or-map, get_or-take, get_or_default, length-take-le, get_or-drop, drop-set}
use Rattle.std.proofs.Math.Seq.{map-set_same}
use Rattle.std.specs.Result.{OnOk, OnErr}
use Rattle.indexmap.specs.IndexSet.{insert_key}
use Rattle.proof_semantics.specs.declared.literals.Lit.{Lit}
use Rattle.edge.specs.Units.{SpentFrame}
use Rattle.ic3_frames.specs.Frames.{same_clause, has_clause, own_lemmas, frame_at, stays, put_at, with_lemma, AllDiffer}
use Rattle.ic3_frames.specs.Kept.{keys_of, taken_out, StandOnce}
use Rattle.ic3_frames.proofs.Times.{has-none, times-stays}
use Rattle.ic3_frames.proofs.Putting.{taken-above, taken-more, put-taken, once-with, with-moved, frame-own, same-frames, has-own, some-own}

abbrev Levels : Type 0
Levels = List (List (List Lit))

-- a lemma's level, as a set and as a list
pub keys-at : {S : Type 0} (sets : List (HashSet (List Lit) S)) (k : ℕ) (s : HashSet (List Lit) S)
    → s ≡ get_or sets k s → k < length sets → own_lemmas (keys_of sets) k ≡ s.keys
keys-at sets k s at below = get_or-map (λ s. s.keys) sets k s [] below ∙ ap (λ s. s.keys) (sym at)

pub frame-slice : {S : Type 0} (sets : List (HashSet (List Lit) S)) (k : ℕ)
    → frame_at (keys_of (take (length sets - k) (drop k sets))) 0 ≡ frame_at (keys_of sets) k
frame-slice sets k =
    let all : take (length sets - k) (drop k sets) ≡ drop k sets = take_all (length sets - k) (drop k sets) (omega (arith, length-drop k sets)) in
    ap (λ sets. frame_at (keys_of sets) 0) all ∙ ap (λ levels. frame_at levels 0) (sym (drop-map (λ s. s.keys) k sets))

-- ---- the lemma is taken out of one more level

pub taken-keys : {S : Type 0} (first sets : List (HashSet (List Lit) S)) (k : ℕ) (s new : HashSet (List Lit) S) (lemma : List Lit)
    → s ≡ get_or sets k s → k < length sets → length sets ≡ length first → keys_of sets ≡ taken_out 0 (keys_of first) k lemma
    → new.keys ≡ filter (stays k lemma) s.keys → keys_of (set sets k new) ≡ taken_out 0 (keys_of first) (k + 1) lemma
taken-keys first sets k s new lemma at below size so_far removed =
    let levels : Levels = keys_of first in
    let before : s.keys ≡ own_lemmas levels k =
    sym (keys-at sets k s at below) ∙ ap (λ levels. own_lemmas levels k) so_far ∙ taken-above 0 levels k k lemma (omega arith)
    in
    let inside : k < length levels = omega (arith, length-map first (λ s. s.keys)) in
    map-set (λ s. s.keys) sets k new
    ∙ ap (λ levels. set levels k new.keys) so_far
    ∙ ap (λ own. set (taken_out 0 levels k lemma) k own) (removed ∙ ap (filter (stays k lemma)) before)
    ∙ sym (taken-more 0 levels k k lemma (omega arith) inside)

pub rest-kept : {X : Type 0} (first xs : List X) (k : ℕ) (x : X) → drop k xs ≡ drop k first → drop (k + 1) (set xs k x) ≡ drop (k + 1) first
rest-kept first xs k x rest =
    drop-set-lt (k + 1) xs k x (omega arith) ∙ sym (drop-drop 1 k xs) ∙ ap (drop 1) rest ∙ drop-drop 1 k first

-- ---- levels without lemmas

pub none-more : {S : Type 0} (sets : List (HashSet (List Lit) S)) (k : ℕ) (s : HashSet (List Lit) S) → 1 ≤ k
    → s ≡ get_or sets (k - 1) s → k - 1 < length sets → (length s.keys ≡ 0 → ⊥)
    → ((i : ℕ) → i + 1 < k → own_lemmas (keys_of sets) i ≢ []) → (i : ℕ) → i + 1 < k + 1 → own_lemmas (keys_of sets) i ≢ []
none-more sets k s some at below full so_far i inside none =
    elim (cases_lt (i + 1) k) [
      | inl earlier ↦ so_far i earlier none
      | inr last ↦
          let same : i ≡ k - 1 = omega arith in
          full (ap length (sym (keys-at sets (k - 1) s at below) ∙ ap (own_lemmas (keys_of sets)) (sym same) ∙ none))
    ]

pub all-differ : {S : Type 0} (sets : List (HashSet (List Lit) S)) (levels : Levels) → keys_of sets ≡ levels → StandOnce levels
    → (r : Option ℕ) → IfNone r ((k : ℕ) → k + 1 < length sets → own_lemmas (keys_of sets) k ≢ []) → IfNone r (AllDiffer levels)
all-differ sets levels is once (Some k) h = h
all-differ sets levels is once None h =
    λ k below.
    let size : length sets ≡ length levels = sym (length-map sets (λ s. s.keys)) ∙ ap length is in
    has-own levels k (λ none. h k (omega arith) (ap (λ levels. own_lemmas levels k) is ∙ none)) once (omega arith)

pub all-equal : {S : Type 0} (sets : List (HashSet (List Lit) S)) (levels : Levels) → keys_of sets ≡ levels
    → (r : Option ℕ) → IfSome r (λ k. k + 1 < length sets) → IfSome r (λ k. own_lemmas (keys_of sets) k ≡ [])
    → IfSome r (λ k. frame_at levels k ≡ frame_at levels (k + 1))
all-equal sets levels is None below h = h
all-equal sets levels is (Some k) below h =
    let size : length sets ≡ length levels = sym (length-map sets (λ s. s.keys)) ∙ ap length is in
    same-frames levels k (omega arith) (sym (ap (λ levels. own_lemmas levels k) is) ∙ h)

-- ---- counts

pub counts-more : {S : Type 0} (sets : List (HashSet (List Lit) S)) (counts : List ℕ) (k n : ℕ) (s : HashSet (List Lit) S)
    → s ≡ get_or sets k s → k < length sets → k < length counts → n ≡ length s.keys
    → ((i : ℕ) → i < k → get_or counts i 0 ≡ length (own_lemmas (keys_of sets) i))
    → (i : ℕ) → i < k + 1 → get_or (set counts k n) i 0 ≡ length (own_lemmas (keys_of sets) i)
counts-more sets counts k n s at below inside is so_far =
    below_more _ _
    (λ i h. let apart : i ≢ k = omega arith in rw get_or-set_other (so_far i h))
    (rw get_or-set_same (is ∙ ap length (sym (keys-at sets k s at below))))

not-empty : (xs : List (List Lit)) → xs ≢ [] → 0 < length xs
not-empty [] some = absurd (some refl)
not-empty (x ∷ xs) some = omega arith

pub spent-frame : {S : Type 0} (sets : List (HashSet (List Lit) S)) (counts : List ℕ) → length counts ≡ length sets → 2 ≤ length sets
    → AllDiffer (keys_of sets) → ((i : ℕ) → i < length sets → get_or counts i 0 ≡ length (own_lemmas (keys_of sets) i))
    → SpentFrame (take (length sets - 1) counts)
spent-frame sets counts size two differ are =
    let n : ℕ = length sets - 1 in
    let shorter : length (take n counts) ≡ n = length-take-le n counts (omega arith) in
    let keys : length (keys_of sets) ≡ length sets = length-map sets (λ s. s.keys) in
    record {
      not_empty = λ none. let nothing : length (take n counts) ≡ 0 = ap length none in omega arith;
      lemmas = λ i d below.
          let inside : i < n = omega arith in
          let within : i < length counts = omega arith in
          let some = not-empty (own_lemmas (keys_of sets) i) (some-own (keys_of sets) i (omega arith) (differ i (omega arith))) in
          let is : get_or (take n counts) i d ≡ length (own_lemmas (keys_of sets) i) =
          get_or-take n counts i d inside ∙ get_or_default counts i d 0 within ∙ are i (omega arith)
          in
          omega arith;
    }

-- ---- a lemma is put into a level

pub made-keys : {S : Type 0} (first : List (HashSet (List Lit) S)) (k : ℕ) (s made : HashSet (List Lit) S)
    → made.keys ≡ (get_or first k s).keys → keys_of (set first k made) ≡ keys_of first
made-keys first k s made same = map-set_same (λ s. s.keys) first k made s same

stays-there : {S : Type 0} (first sets : List (HashSet (List Lit) S)) (k : ℕ) (s t made : HashSet (List Lit) S) → k < length first
    → drop k sets ≡ drop k (set first k made) → made.keys ≡ (get_or first k s).keys → (get_or sets k t).keys ≡ own_lemmas (keys_of first) k
stays-there first sets k s t made below rest same =
    let there : get_or sets k t ≡ made =
    ap (λ i. get_or sets i t) (sym (add-zero k)) ∙ sym (get_or-drop k sets 0 t)
    ∙ ap (λ xs. get_or xs 0 t) (rest ∙ drop-set first k made below)
    in
    ap (λ s. s.keys) there ∙ same ∙ sym (get_or-map (λ s. s.keys) first k s [] below)

pub put-behind : (n : ℕ) (c : List Lit) (own kept last : List (List Lit)) → kept ≡ filter (stays n c) own
    → last ≡ insert_key same_clause kept c → last ≡ filter (stays n c) own ++ c ∷ []
put-behind n c own kept last is put =
    let absent : has_clause kept c ≡ false =
    ap (λ xs. has_clause xs c) is ∙ has-none c (filter (stays n c) own) (times-stays n c own)
    in
    put ∙ behind absent ∙ ap (λ xs. xs ++ c ∷ []) is
  where
    behind : has_clause kept c ≡ false → insert_key same_clause kept c ≡ kept ++ c ∷ []
    behind absent = rw absent refl

pub put-done : {S : Type 0} (first sets : List (HashSet (List Lit) S)) (k : ℕ) (s t made last : HashSet (List Lit) S) (lemma : List Lit) → k < length first
    → drop k sets ≡ drop k (set first k made) → made.keys ≡ (get_or first k s).keys → has_clause (frame_at (keys_of first) k) lemma ≡ false
    → keys_of sets ≡ taken_out 0 (keys_of (set first k made)) k lemma → last.keys ≡ filter (stays k lemma) (get_or sets k t).keys ++ lemma ∷ []
    → keys_of (set sets k last) ≡ with_lemma (keys_of first) k lemma
put-done first sets k s t made last lemma below rest same absent taken added =
    let levels : Levels = keys_of first in
    let inside : k < length levels = omega (arith, length-map first (λ s. s.keys)) in
    let out : keys_of sets ≡ taken_out 0 levels k lemma = taken ∙ ap (λ levels. taken_out 0 levels k lemma) (made-keys first k s made same) in
    let own : last.keys ≡ filter (stays k lemma) (own_lemmas levels k) ++ lemma ∷ [] =
    added ∙ ap (λ own. filter (stays k lemma) own ++ lemma ∷ []) (stays-there first sets k s t made below rest same)
    in
    let put : put_at levels k lemma ≡ with_lemma levels k lemma = rw absent refl in
    map-set (λ s. s.keys) sets k last ∙ ap (λ levels. set levels k last.keys) out ∙ ap (set (taken_out 0 levels k lemma) k) own
    ∙ put-taken 0 levels k k lemma (omega arith) inside ∙ put

-- ---- what a call leaves

pub on-err : {T E : Type 0} (r : Result T E) (P : Type 0) → P → OnErr r P
on-err (Ok x) P h = tt
on-err (Err e) P h = h

pub on-ok : {T E : Type 0} (r : Result T E) (P Q : Type 0) → (P → Q) → OnOk r P → OnOk r Q
on-ok (Ok x) P Q f h = f h
on-ok (Err e) P Q f h = h

pub kept-once : {T E : Type 0} (r : Result T E) (old new : Levels) (k : ℕ) (lemma : List Lit)
    → OnOk r (new ≡ with_lemma old k lemma) → OnErr r (new ≡ old) → StandOnce old → StandOnce new
kept-once (Ok x) old new k lemma ok err once = subst StandOnce (sym ok) (once-with old k lemma once)
kept-once (Err e) old new k lemma ok err once = subst StandOnce (sym err) once

pub pushed-moved : {T E : Type 0} (r : Result T E) (levels new : Levels) (k place : ℕ) (lemma : List Lit) → k < length levels → StandOnce levels
    → place < length (own_lemmas levels k) → lemma ≡ get_or (own_lemmas levels k) place [] → OnOk r (new ≡ with_lemma levels (k + 1) lemma)
    → OnOk r (new ≡ put_at levels (k + 1) (get_or (own_lemmas levels k) place []))
pushed-moved r levels new k place lemma below once inside is ok =
    on-ok r (new ≡ with_lemma levels (k + 1) lemma) (new ≡ put_at levels (k + 1) (get_or (own_lemmas levels k) place []))
    (λ put. put ∙ ap (with_lemma levels (k + 1)) is ∙ with-moved levels k place once below inside) ok
