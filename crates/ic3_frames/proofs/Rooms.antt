-- Lemmas and frames take room.
use Rattle.std.proofs.Common.{◌≡◌, ℕ, zero, suc, ◌+◌, ◌-◌, ◌*◌, ◌^◌, ◌<◌, ◌≤◌, Bool, true, false, ◌&&◌, List, [], ◌∷◌, ◌++◌, length, length-append, refl, sym, ap, ◌∙◌, inl, inr, if◌then◌else◌, zero-add, arith}
use Rattle.std.proofs.Math.Nat.{pow-suc, lt_of_not-le}
use Rattle.std.proofs.lemmas.Bool.{cases_Bool, false≢true}
use Rattle.proof_semantics.specs.declared.literals.Lit.{Lit}
use Rattle.proof_semantics.specs.Clauses.{clause_value, values_of}
use Rattle.ic3_frames.specs.Frames.{has_clause, frame_at, put_from, put_at}
use Rattle.ic3_frames.specs.Room.{count_states, allowed_by, total, room, LemmasTakeRoom, LemmasMakeNoRoom, FramesTakeRoom, NeighboursDiffer, DifferingAreFew, FirstRoom}
use Rattle.ic3_frames.proofs.Counting.{count-within, count-less, count-all, count-same}
use Rattle.ic3_frames.proofs.Meaning.{frames-grow, from-within, has-adds-nothing, length-put, opened-stay}

abbrev Levels : Type 0
Levels = List (List (List Lit))

-- ---- a lemma is put into a frame

and-first : (a b : Bool) → (a && b) ≡ true → a ≡ true
and-first true b e = refl
and-first false b e = absurd (false≢true e)

and-false : (a b : Bool) → b ≡ false → (a && b) ≡ false
and-false true b e = e
and-false false b e = refl

fewer : (m : ℕ) (levels : Levels) (k : ℕ) (c : List Lit) (s : List Bool) → k < length levels
    → allowed_by (frame_at (put_from m levels k c) 0) s ≡ true → allowed_by (frame_at levels 0) s ≡ true
fewer m levels k c s inside h =
    and-first (allowed_by (frame_at levels 0) s) (clause_value (values_of s) c)
    (sym (from-within (values_of s) m levels k c 0 inside (omega arith)) ∙ h)

total-within : (m n : ℕ) (levels : Levels) (k : ℕ) (c : List Lit) → k < length levels → total n (put_from m levels k c) ≤ total n levels
total-within m n [] k c inside = absurd (omega arith)
total-within m n (own ∷ levels) zero c inside =
    let here = count-within n (allowed_by (frame_at (put_from m (own ∷ levels) zero c) 0)) (allowed_by (frame_at (own ∷ levels) 0))
    (λ s. fewer m (own ∷ levels) zero c s inside)
    in
    omega arith
total-within m n (own ∷ levels) (suc k) c inside =
    let here = count-within n (allowed_by (frame_at (put_from m (own ∷ levels) (suc k) c) 0)) (allowed_by (frame_at (own ∷ levels) 0))
    (λ s. fewer m (own ∷ levels) (suc k) c s inside)
    in
    let above = total-within (suc m) n levels k c (omega arith) in
    omega arith

total-less : (m n : ℕ) (levels : Levels) (k : ℕ) (c : List Lit) (s : List Bool) → k < length levels → length s ≡ n
    → allowed_by (frame_at levels k) s ≡ true → clause_value (values_of s) c ≡ false → total n (put_from m levels k c) + 1 ≤ total n levels
total-less m n [] k c s inside size allowed out = absurd (omega arith)
total-less m n (own ∷ levels) zero c s inside size allowed out =
    let gone : allowed_by (frame_at (put_from m (own ∷ levels) zero c) 0) s ≡ false =
    from-within (values_of s) m (own ∷ levels) zero c 0 inside (omega arith)
    ∙ and-false (allowed_by (frame_at (own ∷ levels) 0) s) (clause_value (values_of s) c) out
    in
    let here = count-less n (allowed_by (frame_at (put_from m (own ∷ levels) zero c) 0)) (allowed_by (frame_at (own ∷ levels) 0))
    (λ s. fewer m (own ∷ levels) zero c s inside) s size gone allowed
    in
    omega arith
total-less m n (own ∷ levels) (suc k) c s inside size allowed out =
    let here = count-within n (allowed_by (frame_at (put_from m (own ∷ levels) (suc k) c) 0)) (allowed_by (frame_at (own ∷ levels) 0))
    (λ s. fewer m (own ∷ levels) (suc k) c s inside)
    in
    let above = total-less (suc m) n levels k c s (omega arith) size allowed out in
    omega arith

room-put : (n : ℕ) (levels : Levels) (k : ℕ) (c : List Lit)
    → room n (put_at levels k c) ≡ total n (put_at levels k c) + (2 ^ n + 2 - length levels) * (2 ^ n + 1)
unfolding room
room-put n levels k c = ap (λ size. total n (put_at levels k c) + (2 ^ n + 2 - size) * (2 ^ n + 1)) (length-put levels k c)

room-is : (n : ℕ) (levels : Levels) → room n levels ≡ total n levels + (2 ^ n + 2 - length levels) * (2 ^ n + 1)
unfolding room
room-is n levels = refl

pub lemmas-make-none : LemmasMakeNoRoom
lemmas-make-none n levels k c inside =
    elim (cases_Bool (has_clause (frame_at levels k) c)) [
      | inl there ↦ rw there (omega arith)
      | inr absent ↦ rw absent (put_less n levels k c inside)
    ]
  where
    put_less : (n : ℕ) (levels : Levels) (k : ℕ) (c : List Lit) → k < length levels → room n (put_at levels k c) ≤ room n levels
    put_less n levels k c inside =
        let e = room-put n levels k c in
        let f = room-is n levels in
        let h = total-within 0 n levels k c inside in
        omega arith

pub lemmas-take : LemmasTakeRoom
lemmas-take n levels k c s inside size allowed out =
    elim (cases_Bool (has_clause (frame_at levels k) c)) [
      | inl there ↦
          let said = has-adds-nothing (values_of s) (frame_at levels k) c there in
          let none = and-false (allowed_by (frame_at levels k) s) (clause_value (values_of s) c) out in
          absurd (false≢true (sym none ∙ sym said ∙ allowed))
      | inr absent ↦ rw absent (put_less n levels k c s inside size allowed out)
    ]
  where
    put_less : (n : ℕ) (levels : Levels) (k : ℕ) (c : List Lit) (s : List Bool) → k < length levels → length s ≡ n
        → allowed_by (frame_at levels k) s ≡ true → clause_value (values_of s) c ≡ false → room n (put_at levels k c) + 1 ≤ room n levels
    put_less n levels k c s inside size allowed out =
        let e = room-put n levels k c in
        let f = room-is n levels in
        let h = total-less 0 n levels k c s inside size allowed out in
        omega arith

-- ---- a frame is opened

total-opened : (n : ℕ) (levels : Levels) → total n (levels ++ [] ∷ []) ≡ total n levels + 2 ^ n
total-opened n [] = let h = count-all n in omega arith
total-opened n (own ∷ levels) =
    let here : count_states n (allowed_by (frame_at ((own ∷ levels) ++ [] ∷ []) 0)) ≡ count_states n (allowed_by (frame_at (own ∷ levels) 0)) =
    ap (λ lemmas. count_states n (allowed_by lemmas)) (opened-stay (own ∷ levels) 0)
    in
    let above = total-opened n levels in
    omega arith

pub frames-take : FramesTakeRoom
frames-take n levels few =
    let width : ℕ = 2 ^ n + 1 in
    let left : ℕ = 2 ^ n + 2 - (length levels + 1) in
    let size : length (levels ++ [] ∷ []) ≡ length levels + 1 = length-append levels ([] ∷ []) in
    let e : room n (levels ++ [] ∷ []) ≡ total n (levels ++ [] ∷ []) + left * width =
    room-is n (levels ++ [] ∷ []) ∙ ap (λ k. total n (levels ++ [] ∷ []) + (2 ^ n + 2 - k) * width) size
    in
    let more : 2 ^ n + 2 - length levels ≡ left + 1 = omega arith in
    let f : room n levels ≡ total n levels + (left + 1) * width = room-is n levels ∙ ap (λ k. total n levels + k * width) more in
    let g = total-opened n levels in
    omega arith

-- ---- frames that differ

next-differ : (n : ℕ) (own : List (List Lit)) (levels : Levels) → NeighboursDiffer n (own ∷ levels) → NeighboursDiffer n levels
next-differ n own levels differ k inside same =
    differ (suc k) (omega arith)
    (λ s size. same s size ∙ ap (λ m. allowed_by (frame_at (own ∷ levels) m) s) (turn k))
  where
    turn : (k : ℕ) → suc (k + 1) ≡ suc k + 1
    turn k = omega arith

below-next : (m k : ℕ) → (k ≤ m → ⊥) → m + 1 ≤ k
below-next m k h = let more : m < k = lt_of_not-le h in omega (arith, more)

first-differs : (n : ℕ) (own next : List (List Lit)) (levels : Levels) → NeighboursDiffer n (own ∷ next ∷ levels)
    → count_states n (allowed_by (frame_at (own ∷ next ∷ levels) 0)) + 1 ≤ count_states n (allowed_by (frame_at (next ∷ levels) 0))
first-differs n own next levels differ =
    let all : Levels = own ∷ next ∷ levels in
    below-next (count_states n (allowed_by (frame_at all 0))) (count_states n (allowed_by (frame_at (next ∷ levels) 0)))
    (λ few. differ 0 (omega arith)
    (count-same n (allowed_by (frame_at all 0)) (allowed_by (frame_at all 1)) (λ s h. frames-grow all 0 (values_of s) h) few))

-- the states that the first frame allows, and a frame for each state that it does not
few-above : (n : ℕ) (own : List (List Lit)) (levels : Levels) → NeighboursDiffer n (own ∷ levels)
    → length (own ∷ levels) + count_states n (allowed_by (frame_at (own ∷ levels) 0)) ≤ 2 ^ n + 1
few-above n own [] differ =
    let most = count-within n (allowed_by (frame_at (own ∷ []) 0)) (λ s. true) (λ s h. refl) in
    let all = count-all n in
    omega (arith, most, all)
few-above n own (next ∷ levels) differ =
    let above = few-above n next levels (next-differ n own (next ∷ levels) differ) in
    let here = first-differs n own next levels differ in
    omega (arith, above, here)

pub differing-few : DifferingAreFew
differing-few n [] differ = omega arith
differing-few n (own ∷ levels) differ = let h = few-above n own levels differ in omega (arith, h)

pub first-room : FirstRoom
first-room n =
    let e : 2 ^ n + 2 - 0 ≡ 2 ^ n + 2 = omega arith in
    room-is n [] ∙ zero-add ((2 ^ n + 2 - 0) * (2 ^ n + 1)) ∙ ap (λ k. k * (2 ^ n + 1)) e
