-- Sound frames stay sound where a lemma is put into one, and a solver with the same lemma goes on to agree with them.
use Rattle.std.proofs.Common.{◌≡◌, ℕ, zero, suc, ◌+◌, ◌<◌, ◌≤◌, Bool, true, false, ◌&&◌, ◌||◌, nat_lt, List, [], ◌∷◌, ◌++◌, length, filter, refl, sym, ap, subst, ◌∙◌, inl, inr, add-one, arith}
use Rattle.std.specs.List.{All}
use Rattle.std.proofs.lemmas.Bool.{cases_Bool, cases_lt, and_parts, and_from, lt-ltb, le-ltb}
use Rattle.std.proofs.lemmas.List.Elements.{All-head, All-tail, All-cons, All-append, All-push, All-nil, All-filter}
use Rattle.std.proofs.lemmas.List.Folds.{list_all-append}
use Rattle.aig_semantics.specs.declared.traces.Position.{Position}
use Rattle.aig_semantics.specs.Runs.{successor}
use Rattle.proof_semantics.specs.declared.literals.Lit.{Lit}
use Rattle.proof_semantics.specs.Clauses.{clause_value, values_of}
use Rattle.ic3_frames.specs.Frames.{has_clause, frame_at, stays, put_from, put_at, with_lemma}
use Rattle.ic3_frames.specs.Room.{allowed_by}
use Rattle.ic3_frames.proofs.Meaning.{with-within, with-above, frames-grow, number-stays}
use Rattle.ic3_semantics.specs.declared.lemmas.Lemma.{Lemma}
use Rattle.ic3_semantics.specs.Stepping.{Stepping, IsArenaStep, IsOver}
use Rattle.ic3_semantics.specs.Searching.{Question}
use Rattle.ic3_loops.specs.Sound.{has_one_of, IsSound, IsRelative, Agree, IsSearch}

abbrev pub Levels : Type 0
Levels = List (List (List Lit))

-- What a frame allows each later one allows.
pub grow_on : (levels : Levels) (j k : ℕ) (s : List Bool) → k ≤ j → allowed_by (frame_at levels k) s ≡ true → allowed_by (frame_at levels j) s ≡ true
grow_on levels zero zero s below h = h
grow_on levels zero (suc k) s below h = absurd (omega arith)
grow_on levels (suc j) k s below h =
    elim (cases_lt j k) [
      | inl last ↦ let e : k ≡ suc j = omega arith in ap (λ n. allowed_by (frame_at levels n) s) (sym e) ∙ h
      | inr within ↦
          ap (λ n. allowed_by (frame_at levels n) s) (sym (add-one j))
          ∙ frames-grow levels j (values_of s) (grow_on levels j k s within h)
    ]

-- What a frame allows behind a lemma it allowed before, and at the lemma's level and below the lemma holds.
pub allowed_before : (levels : Levels) (n : ℕ) (c : List Lit) (k : ℕ) (s : List Bool) → n < length levels
    → allowed_by (frame_at (with_lemma levels n c) k) s ≡ true → allowed_by (frame_at levels k) s ≡ true
allowed_before levels n c k s inside h =
    elim (cases_lt n k) [
      | inl above ↦ ap (λ clauses. allowed_by clauses s) (sym (with-above levels n c k above)) ∙ h
      | inr within ↦
          (and_parts (allowed_by (frame_at levels k) s) (clause_value (values_of s) c)
          (sym (with-within (values_of s) levels n c k inside within) ∙ h)).0
    ]

pub lemma_holds : (levels : Levels) (n : ℕ) (c : List Lit) (k : ℕ) (s : List Bool) → n < length levels → k ≤ n
    → allowed_by (frame_at (with_lemma levels n c) k) s ≡ true → clause_value (values_of s) c ≡ true
lemma_holds levels n c k s inside within h =
    (and_parts (allowed_by (frame_at levels k) s) (clause_value (values_of s) c)
    (sym (with-within (values_of s) levels n c k inside within) ∙ h)).1

pub allowed_with : (levels : Levels) (n : ℕ) (c : List Lit) (k : ℕ) (s : List Bool) → n < length levels
    → allowed_by (frame_at levels k) s ≡ true → (k ≤ n → clause_value (values_of s) c ≡ true)
    → allowed_by (frame_at (with_lemma levels n c) k) s ≡ true
allowed_with levels n c k s inside h holds =
    elim (cases_lt n k) [
      | inl above ↦ ap (λ clauses. allowed_by clauses s) (with-above levels n c k above) ∙ h
      | inr within ↦
          with-within (values_of s) levels n c k inside within
          ∙ and_from (allowed_by (frame_at levels k) s) (clause_value (values_of s) c) h (holds within)
    ]

pub all_parts : (P : List Lit → Type 0) (xs ys : List (List Lit)) → All P (xs ++ ys) → All P xs × All P ys
all_parts P [] ys h = (All-nil P, h)
all_parts P (x ∷ xs) ys h =
    let rest = all_parts P xs ys (All-tail P x (xs ++ ys) h) in
    (All-cons P x xs (All-head P x (xs ++ ys) h) rest.0, rest.1)

-- Each lemma of the frames, and the one that is put in.
all-put : (P : List Lit → Type 0) (m : ℕ) (levels : Levels) (n : ℕ) (c : List Lit) → All P (frame_at levels 0) → P c
    → All P (frame_at (put_from m levels n c) 0)
all-put P m [] n c h p = h
all-put P m (own ∷ levels) zero c h p =
    let parts = all_parts P own (frame_at levels 0) h in
    All-append P (filter (stays m c) own ++ c ∷ []) (frame_at levels 0)
    (All-push P (filter (stays m c) own) c (All-filter (stays m c) P own parts.0) p) parts.1
all-put P m (own ∷ levels) (suc n) c h p =
    let parts = all_parts P own (frame_at levels 0) h in
    All-append P (filter (stays m c) own) (frame_at (put_from (suc m) levels n c) 0)
    (All-filter (stays m c) P own parts.0) (all-put P (suc m) levels n c parts.1 p)

pub all-with : (P : List Lit → Type 0) (levels : Levels) (n : ℕ) (c : List Lit) → All P (frame_at levels 0) → P c
    → All P (frame_at (with_lemma levels n c) 0)
all-with P levels n c h p =
    elim (cases_Bool (has_clause (frame_at levels n) c)) [
      | inl there ↦ rw there h
      | inr absent ↦ rw absent (all-put P 0 levels n c h p)
    ]

-- Each frame steps into the next, behind a lemma too.
put-steps : (q : Question) (levels : Levels) (n : ℕ) (c : List Lit) → n < length levels → IsRelative q levels n c
    → ((k : ℕ) (p : Position) → k + 1 < length levels → IsArenaStep q p → allowed_by (frame_at levels k) p.latches ≡ true
    → allowed_by (frame_at levels (k + 1)) (successor q.circuit p) ≡ true)
    → (k : ℕ) (p : Position) → k + 1 < length levels → IsArenaStep q p → allowed_by (frame_at (with_lemma levels n c) k) p.latches ≡ true
    → allowed_by (frame_at (with_lemma levels n c) (k + 1)) (successor q.circuit p) ≡ true
put-steps q levels n c inside relative step k p below arena from =
    let before : allowed_by (frame_at levels k) p.latches ≡ true = allowed_before levels n c k p.latches inside from in
    allowed_with levels n c (k + 1) (successor q.circuit p) inside (step k p below arena before)
    (λ within. relative_at q levels n c k p inside relative within arena before (lemma_holds levels n c k p.latches inside (omega arith) from))
  where
    relative_at : (q : Question) (levels : Levels) (n : ℕ) (c : List Lit) (k : ℕ) (p : Position) → n < length levels → IsRelative q levels n c
        → k + 1 ≤ n → IsArenaStep q p → allowed_by (frame_at levels k) p.latches ≡ true → clause_value (values_of p.latches) c ≡ true
        → clause_value (values_of (successor q.circuit p)) c ≡ true
    relative_at q levels zero c k p inside relative within arena before holds = absurd (omega arith)
    relative_at q levels (suc n) c k p inside relative within arena before holds =
        relative n p (add-one n) arena (grow_on levels n k p.latches (omega arith) before) holds

pub sound-with : (q : Question) (cube : List Lit) (levels : Levels) (n : ℕ) (c : List Lit) → IsSound q cube levels → n < length levels
    → IsOver (length q.circuit.latches) c → has_one_of cube c ≡ true → IsRelative q levels n c → IsSound q cube (with_lemma levels n c)
sound-with q cube levels n c sound inside over based relative = record {
  over = all-with (IsOver (length q.circuit.latches)) levels n c sound.over over;
  based = all-with (λ clause. has_one_of cube clause ≡ true) levels n c sound.based based;
  starts = λ s size h. sound.starts s size (allowed_before levels n c 0 s inside h);
  steps = λ k p below arena from.
      let size : length (with_lemma levels n c) ≡ length levels = number-stays levels n c in
      put-steps q levels n c inside relative sound.steps k p (omega arith) arena from;
}

-- The solver agrees with the frames where both take the lemma.
and_yes : (a : Bool) → (a && true) ≡ a
and_yes true = refl
and_yes false = refl

pub agree-with : (lemmas : List Lemma) (levels : Levels) (n : ℕ) (c : List Lit) → n < length levels → Agree lemmas levels
    → Agree (lemmas ++ record { level = n; clause = c } ∷ []) (with_lemma levels n c)
agree-with lemmas levels n c inside agree k s =
    let test : Lemma → Bool = λ lemma. nat_lt lemma.level k || clause_value (values_of s) lemma.clause in
    list_all-append test lemmas (record { level = n; clause = c } ∷ [])
    ∙ ap (λ b. b && (test (record { level = n; clause = c }) && true)) (agree k s)
    ∙ elim (cases_lt n k) [
      | inl above ↦
          ap (λ b. allowed_by (frame_at levels k) s && ((b || clause_value (values_of s) c) && true)) (lt-ltb n k above)
          ∙ and_yes (allowed_by (frame_at levels k) s)
          ∙ ap (λ clauses. allowed_by clauses s) (sym (with-above levels n c k above))
      | inr within ↦
          ap (λ b. allowed_by (frame_at levels k) s && ((b || clause_value (values_of s) c) && true)) (le-ltb n k within)
          ∙ ap (λ b. allowed_by (frame_at levels k) s && b) (and_yes (clause_value (values_of s) c))
          ∙ sym (with-within (values_of s) levels n c k inside within)
    ]

pub search-with : (cube : List Lit) (old new : Stepping) (levels : Levels) (n : ℕ) (c : List Lit) → IsSearch cube old levels
    → n < length levels → IsOver (length old.question.circuit.latches) c → has_one_of cube c ≡ true
    → IsRelative old.question levels n c → new ≡ record old { lemmas = old.lemmas ++ record { level = n; clause = c } ∷ [] }
    → IsSearch cube new (with_lemma levels n c)
search-with cube old new levels n c search inside over based relative is =
    subst (λ steps. IsSearch cube steps (with_lemma levels n c)) (sym is)
    (record {
      starts = search.starts;
      sound = sound-with old.question cube levels n c search.sound inside over based relative;
      agree = agree-with old.lemmas levels n c inside search.agree;
    })
