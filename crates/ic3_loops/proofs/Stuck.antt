-- Lemmas that are pushed, and lemmas that are stuck.
use Rattle.std.proofs.Common.{◌≡◌, ◌≢◌, ℕ, zero, suc, ◌+◌, ◌-◌, ◌<◌, ◌≤◌, Bool, true, false, ◌&&◌, not, List, [], ◌∷◌, ◌++◌, map, length, drop, filter, cond, get_or, refl, sym, ap, subst, ◌∙◌, inl, inr, arith}
use Rattle.std.specs.List.{All}
use Rattle.std.proofs.lemmas.Bool.{cases_Bool, cases_lt, false≢true, and_parts}
use Rattle.std.proofs.lemmas.List.{length-map}
use Rattle.std.proofs.lemmas.List.Elements.{All-nil, All-tail, All-map, All-filter, All-weaker}
use Rattle.std.proofs.lemmas.List.Folds.{list_all-append, list_all_at}
use Rattle.aig_semantics.specs.declared.traces.Position.{Position}
use Rattle.aig_semantics.specs.Runs.{successor}
use Rattle.proof_semantics.specs.declared.literals.Lit.{Lit}
use Rattle.proof_semantics.specs.Clauses.{negation, clause_value, clauses_value, cube_value, values_of}
use Rattle.proof_semantics.proofs.LiteralLaws.{cube_value-negations, not-not}
use Rattle.ic3_frames.specs.Frames.{frame_at, own_lemmas, stays, put_from, with_lemma, AllDiffer}
use Rattle.ic3_frames.specs.Room.{allowed_by, AllowTheSame}
use Rattle.ic3_frames.proofs.Meaning.{with-within}
use Rattle.ic3_frames.proofs.Putting.{frame-own, some-own}
use Rattle.ic3_frames.proofs.Times.{stays-not}
use Rattle.ic3_semantics.specs.Stepping.{Stepping, IsPredecessor, IsMissing, IsOver}
use Rattle.ic3_semantics.specs.Searching.{Question}
use Rattle.ic3_loops.specs.Sound.{IsSound, IsRelative, Agree, AreStuck}
use Rattle.ic3_frames.specs.Witnessing.{IsStuck}
use Rattle.ic3_loops.specs.Propagating.{AllowBelow, IsPushed, StuckFrom, IsTried, Narrows, StayStuck, AllStuck}
use Rattle.ic3_loops.proofs.Sounds.{grow_on, all_parts, Levels}

-- What all lemmas are, those of a level are.
pub all_own : (P : List Lit → Type 0) (levels : Levels) (k : ℕ) → All P (frame_at levels 0) → All P (own_lemmas levels k)
all_own P [] k h = All-nil P
all_own P (own ∷ levels) zero h = (all_parts P own (frame_at levels 0) h).0
all_own P (own ∷ levels) (suc k) h = all_own P levels k (all_parts P own (frame_at levels 0) h).1

-- Each own lemma of a level holds in its frame and in those below.
one_holds : (v : ℕ → Bool) (clauses : List (List Lit)) (i : ℕ) → i < length clauses → clauses_value v clauses ≡ true
    → clause_value v (get_or clauses i []) ≡ true
one_holds v clauses i below all =
    elim (cases_Bool (clause_value v (get_or clauses i []))) [
      | inl holds ↦ holds
      | inr fails ↦ absurd (false≢true (sym (list_all_at (clause_value v) clauses i [] below fails) ∙ all))
    ]

inside_levels : (levels : Levels) (k place : ℕ) → place < length (own_lemmas levels k) → k < length levels
inside_levels [] k place h = absurd (omega arith)
inside_levels (own ∷ levels) zero place h = omega arith
inside_levels (own ∷ levels) (suc k) place h = let rest = inside_levels levels k place h in omega arith

pub own_holds : (levels : Levels) (level place i : ℕ) (s : List Bool) → place < length (own_lemmas levels level) → i ≤ level
    → allowed_by (frame_at levels i) s ≡ true → clause_value (values_of s) (get_or (own_lemmas levels level) place []) ≡ true
own_holds levels level place i s inside below allowed =
    let here : allowed_by (frame_at levels level) s ≡ true = grow_on levels level i s below allowed in
    let own : List (List Lit) = own_lemmas levels level in
    let next : List (List Lit) = frame_at levels (level + 1) in
    let parts : clauses_value (values_of s) (own ++ next) ≡ true =
    ap (clauses_value (values_of s)) (sym (frame-own levels level (inside_levels levels level place inside))) ∙ here
    in
    one_holds (values_of s) own place inside
    (and_parts (clauses_value (values_of s) own) (clauses_value (values_of s) next)
    (sym (list_all-append (clause_value (values_of s)) own next) ∙ parts)).0

-- A lemma whose cube no step enters from its frame holds after each step from it.
pub missing_relative : (st : Stepping) (levels : Levels) (level : ℕ) (cube part lemma : List Lit) → cube ≡ map negation lemma
    → IsMissing st level cube part → Agree st.lemmas levels → IsRelative st.question levels (level + 1) lemma
missing_relative st levels level cube part lemma is missing agree k p next arena from holds =
    let same : k ≡ level = omega arith in
    let v : ℕ → Bool = values_of (successor st.question.circuit p) in
    let out : cube_value (values_of p.latches) cube ≡ false =
    ap (cube_value (values_of p.latches)) is ∙ cube_value-negations (values_of p.latches) lemma ∙ ap not holds
    in
    elim (cases_Bool (clause_value v lemma)) [
      | inl after ↦ after
      | inr broken ↦
          absurd (missing.of_cube p (record {
            step = arena;
            frame = agree level p.latches ∙ ap (λ n. allowed_by (frame_at levels n) p.latches) (sym same) ∙ from;
            outside = out;
            inside = ap (cube_value v) is ∙ cube_value-negations v lemma ∙ ap not broken;
          }))
    ]

-- The state of a lemma's cube breaks it.
pub found_breaks : (st : Stepping) (cube lemma : List Lit) (p : Position) → cube ≡ map negation lemma
    → cube_value (values_of (successor st.question.circuit p)) cube ≡ true
    → clause_value (values_of (successor st.question.circuit p)) lemma ≡ false
found_breaks st cube lemma p is inside =
    let v : ℕ → Bool = values_of (successor st.question.circuit p) in
    sym (not-not (clause_value v lemma)) ∙ ap not (sym (cube_value-negations v lemma) ∙ ap (cube_value v) (sym is) ∙ inside)

-- A lemma whose cube a step enters from its frame is stuck.
pub found_stuck : (st : Stepping) (levels : Levels) (level : ℕ) (cube lemma : List Lit) (p : Position) → cube ≡ map negation lemma
    → IsPredecessor st level cube p → Agree st.lemmas levels → IsStuck st.question levels level lemma
found_stuck st levels level cube lemma p is found agree =
    record {
      step = p;
      arena = found.step;
      from = sym (agree level p.latches) ∙ found.frame;
      breaks = found_breaks st cube lemma p is found.inside;
    }

-- What a lemma of a level that is put into the next level leaves as it was.
and_first : (a b : Bool) → (a ≡ true → b ≡ true) → (a && b) ≡ a
and_first true b h = h refl
and_first false b h = refl

pub pushed_below : (levels : Levels) (level place : ℕ) → level + 1 < length levels → place < length (own_lemmas levels level)
    → AllowBelow levels (with_lemma levels (level + 1) (get_or (own_lemmas levels level) place [])) level
pushed_below levels level place next inside i s below =
    let lemma : List Lit = get_or (own_lemmas levels level) place [] in
    with-within (values_of s) levels (level + 1) lemma i next (omega arith)
    ∙ and_first (allowed_by (frame_at levels i) s) (clause_value (values_of s) lemma) (own_holds levels level place i s inside below)

-- Stuck lemmas stay stuck.
pub stuck_on : (q : Question) (old new : Levels) (level k : ℕ) (lemma : List Lit) → AllowBelow old new level → k ≤ level
    → IsStuck q old k lemma → IsStuck q new k lemma
stuck_on q old new level k lemma below within stuck = record {
  step = stuck.step;
  arena = stuck.arena;
  from = below k stuck.step.latches within ∙ stuck.from;
  breaks = stuck.breaks;
}

-- What the levels below that of a lemma have, behind it.
own_put : (m : ℕ) (levels : Levels) (n k i : ℕ) (c : List Lit) → k < n → m + k ≡ i
    → own_lemmas (put_from m levels n c) k ≡ filter (stays i c) (own_lemmas levels k)
own_put m [] n zero i c below is = refl
own_put m [] n (suc k) i c below is = refl
own_put m (own ∷ levels) zero k i c below is = absurd (omega arith)
own_put m (own ∷ levels) (suc n) zero i c below is = let same : m ≡ i = omega arith in ap (λ j. filter (stays j c) own) same
own_put m (own ∷ levels) (suc n) (suc k) i c below is = own_put (suc m) levels n k i c (omega arith) (omega arith)

own_pushed : (old new : Levels) (level place k : ℕ) → IsPushed old new level place → k ≤ level
    → own_lemmas new k ≡ filter (stays k (get_or (own_lemmas old level) place [])) (own_lemmas old k)
own_pushed old new level place k pushed within =
    ap (λ levels. own_lemmas levels k) pushed.lists
    ∙ own_put 0 old (level + 1) k k (get_or (own_lemmas old level) place []) (omega arith) (omega arith)

pub pushed_stay : (q : Question) (old new : Levels) (level place : ℕ) → IsPushed old new level place → StayStuck q old new level
pushed_stay q old new level place pushed k below stuck =
    let c : List Lit = get_or (own_lemmas old level) place [] in
    subst (All (IsStuck q new k)) (sym (own_pushed old new level place k pushed (omega arith)))
    (All-filter (stays k c) (IsStuck q new k) (own_lemmas old k)
    (All-weaker (IsStuck q old k) (IsStuck q new k) (λ lemma. stuck_on q old new level k lemma pushed.below (omega arith)) (own_lemmas old k) stuck))

-- ---- the lemmas of a level from a place on

fewer : (P : List Lit → Type 0) (xs : List (List Lit)) (i : ℕ) → All P (drop i xs) → All P (drop (suc i) xs)
fewer P [] i each = All-nil P
fewer P (x ∷ xs) zero each = All-tail P x xs each
fewer P (x ∷ xs) (suc i) each = fewer P xs i each

next_drop : (P : List Lit → Type 0) (x : List Lit) (xs : List (List Lit)) (i : ℕ) → All P (drop (suc i + 1) (x ∷ xs)) → All P (drop (i + 1) xs)
next_drop P x xs i each = let next : suc i + 1 ≡ suc (i + 1) = omega arith in subst (λ n. All P (drop n (x ∷ xs))) next each

-- where the one at the place goes, those from there on are some of those behind it
gone_behind : (P : List Lit → Type 0) (test : List Lit → Bool) (xs : List (List Lit)) (i : ℕ) → i < length xs
    → test (get_or xs i []) ≡ false → All P (drop (i + 1) xs) → All P (drop i (filter test xs))
gone_behind P test [] i below gone each = absurd (omega arith)
gone_behind P test (x ∷ xs) zero below gone each =
    subst (λ b. All P (cond b (x ∷ filter test xs) (filter test xs))) (sym gone) (All-filter test P xs each)
gone_behind P test (x ∷ xs) (suc i) below gone each =
    let rest : All P (drop i (filter test xs)) = gone_behind P test xs i (omega arith) gone (next_drop P x xs i each) in
    elim (cases_Bool (test x)) [
      | inl kept ↦ subst (λ b. All P (drop (suc i) (cond b (x ∷ filter test xs) (filter test xs)))) (sym kept) rest
      | inr out ↦ subst (λ b. All P (drop (suc i) (cond b (x ∷ filter test xs) (filter test xs)))) (sym out) (fewer P (filter test xs) i rest)
    ]

none_behind : (P : List Lit → Type 0) (xs : List (List Lit)) (i : ℕ) → (i < length xs → ⊥) → All P (drop i xs)
none_behind P [] zero past = All-nil P
none_behind P [] (suc i) past = All-nil P
none_behind P (x ∷ xs) zero past = absurd (past (omega arith))
none_behind P (x ∷ xs) (suc i) past = none_behind P xs i (λ below. past (omega arith))

pub none_tried : (q : Question) (levels : Levels) (level place : ℕ) → (place < length (own_lemmas levels level) → ⊥)
    → StuckFrom q levels level place
none_tried q levels level place past = none_behind (IsStuck q levels level) (own_lemmas levels level) place past

pub pushed_tried : (q : Question) (old new : Levels) (level place : ℕ) → place < length (own_lemmas old level)
    → IsPushed old new level place → IsTried q old new level place
pushed_tried q old new level place inside pushed behind =
    let own : List (List Lit) = own_lemmas old level in
    let c : List Lit = get_or own place [] in
    subst (λ those. All (IsStuck q new level) (drop place those)) (sym (own_pushed old new level place level pushed (omega arith)))
    (gone_behind (IsStuck q new level) (stays level c) own place inside (stays-not level c)
    (All-weaker (IsStuck q old level) (IsStuck q new level) (λ lemma. stuck_on q old new level level lemma pushed.below (omega arith))
    (drop (place + 1) own) behind))

-- Neighbouring frames above the lowest differ where each has lemmas of its own, and these are stuck.
pub stuck_differ : (q : Question) (cube : List Lit) (levels : Levels) → IsSound q cube levels → AllStuck q levels → AllDiffer levels
    → (k : ℕ) → 1 ≤ k → k + 1 < length levels
    → AllowTheSame (length q.circuit.latches) (frame_at levels k) (frame_at levels (k + 1)) → ⊥
stuck_differ q cube levels sound stuck differ k above below same =
    differ_at (own_lemmas levels k) refl (some-own levels k (omega arith) (differ k below))
  where
    differ_at : (own : List (List Lit)) → own_lemmas levels k ≡ own → own_lemmas levels k ≢ [] → ⊥
    differ_at [] is some = some is
    differ_at (lemma ∷ own) is some =
        let first : IsStuck q levels k lemma = subst (All (IsStuck q levels k)) is (stuck k above below) 0 [] (omega arith) in
        let t : List Bool = successor q.circuit first.step in
        let size : length t ≡ length q.circuit.latches = length-map q.circuit.latches _ in
        let next : allowed_by (frame_at levels (k + 1)) t ≡ true = sound.steps k first.step below first.arena first.from in
        let inside : 0 < length (own_lemmas levels k) = omega (arith, ap length is) in
        let holds = own_holds levels k 0 k t inside (omega arith) (same t size ∙ next) in
        false≢true (sym first.breaks ∙ ap (λ clauses. clause_value (values_of t) (get_or clauses 0 [])) (sym is) ∙ holds)

pub stay_on : (q : Question) (a b c : Levels) (level : ℕ) → StayStuck q a b level → StayStuck q b c level → StayStuck q a c level
stay_on q a b c level first second k below stuck = second k below (first k below stuck)

pub all_stuck_here : (q : Question) (levels : Levels) (level place : ℕ) → place ≡ 0 → StuckFrom q levels level place → AreStuck q levels level
all_stuck_here q levels level place is stuck = subst (StuckFrom q levels level) is stuck

-- One more level.
pub stuck_more : (q : Question) (old new : Levels) (level : ℕ) → 1 ≤ level → ((k : ℕ) → 1 ≤ k → k + 1 < level → AreStuck q old k)
    → StayStuck q old new (level - 1) → AreStuck q new (level - 1) → (k : ℕ) → 1 ≤ k → k + 1 < level + 1 → AreStuck q new k
stuck_more q old new level some before stay here k above below =
    elim (cases_lt (k + 1) level) [
      | inl earlier ↦ stay k (omega arith) (before k above earlier)
      | inr last ↦ let is : level - 1 ≡ k = omega arith in subst (AreStuck q new) is here
    ]

pub narrow_on : (a b c : Levels) → Narrows a b → Narrows b c → Narrows a c
narrow_on a b c first second k s h = first k s (second k s h)

pub negation_over : (n : ℕ) (lemma : List Lit) → IsOver n lemma → IsOver n (map negation lemma)
negation_over n lemma over = All-map (λ l. l.var < n) negation lemma over
