-- Laws of how far propagation has come on each level.
use Rattle.std.proofs.Math.Dec.{leb}
use Rattle.std.proofs.Common.{◌≡◌, ℕ, zero, suc, ◌+◌, ◌-◌, ◌<◌, ◌≤◌, false, List, [], ◌∷◌, ◌++◌, length, take, Option, Some, None, refl, ap, sym, subst, ◌∙◌, inl, inr, arith}
use Rattle.std.specs.Prelude.{slice_get}
use Rattle.std.specs.Option.{unwrap_or}
use Rattle.std.proofs.lemmas.Bool.{false≢true, cond-true, cond-false, leb-true, le-leb}
use Rattle.std.proofs.lemmas.Option.{none-some, slice_get_within}
use Rattle.proof_semantics.specs.declared.literals.Lit.{Lit}
use Rattle.packed_literals.proofs.ListLaws.{get_push}
use Rattle.cdcl_trail.specs.Trails.{Step, assumed, opened_by, level, up_to_level}
use Rattle.cdcl_trail.specs.Propagation.{is_true, is_fixed, Propagates}
use Rattle.cdcl_trail.specs.Guards.{AreSure, IsFront, KeepsGuards}
use Rattle.cdcl_trail.specs.Storing.{held, IsRewatched, Covers}
use Rattle.cdcl_trail.specs.TracksOf.{HasReached, Sound}
use Rattle.cdcl_trail.specs.declared.tracks.Reached.{Reached}
use Rattle.cdcl_trail.specs.declared.watching.Watching.{Watching}
use Rattle.cdcl_trail.proofs.TrailLaws.{either, cut_step, cut_last, cut_nothing, level_push}
use Rattle.cdcl_trail.proofs.PassLaws.{propagates_level}
use Rattle.cdcl_trail.proofs.PrefixLaws.{cut_at_level}
use Rattle.cdcl_trail.proofs.GuardLaws.{guarded_more, sure_more}
use Rattle.cdcl_trail.proofs.StoreLaws.{covered_grow}
use Rattle.cdcl_trail.proofs.FixedLaws.{cut_front, covers_front}
use Rattle.cdcl_trail.proofs.LoopLaws.{held_same, front_length, get_past}

-- Levels.

cut_more : (n : ℕ) (xs ys : List Step) → n < level xs → up_to_level n (xs ++ ys) ≡ up_to_level n xs
cut_more n [] ys above = absurd (omega arith)
cut_more n (x ∷ xs) ys above =
    cut_step (leb (opened_by x.reason) n) x _ _
    (λ fits. cut_more (n - opened_by x.reason) xs ys (omega (arith, above, leb-true (opened_by x.reason) n fits)))

leb-over : (o m n : ℕ) → leb o m ≡ false → n ≤ m → leb o n ≡ false
leb-over o m n over fits =
    elim (either (leb o n)) [
      | inl small ↦ absurd (false≢true (sym over ∙ le-leb o m (omega (arith, leb-true o n small, fits))))
      | inr large ↦ large
    ]

cut_twice : (n m : ℕ) (xs : List Step) → n ≤ m → up_to_level n (up_to_level m xs) ≡ up_to_level n xs
cut_twice n m [] fits = refl
cut_twice n m (x ∷ xs) fits =
    elim (either (leb (opened_by x.reason) m)) [
      | inl in_m ↦
          ap (up_to_level n) (cond-true (leb (opened_by x.reason) m) (x ∷ up_to_level (m - opened_by x.reason) xs) [] in_m)
          ∙ cut_step (leb (opened_by x.reason) n) x _ _ (λ in_n. cut_twice (n - opened_by x.reason) (m - opened_by x.reason) xs (omega (arith, fits)))
      | inr over ↦
          ap (up_to_level n) (cond-false (leb (opened_by x.reason) m) (x ∷ up_to_level (m - opened_by x.reason) xs) [] over)
          ∙ sym (cond-false (leb (opened_by x.reason) n) (x ∷ up_to_level (n - opened_by x.reason) xs) [] (leb-over (opened_by x.reason) m n over fits))
    ]

get_take : {A : Type 0} (xs : List A) (m n : ℕ) (x : A) → slice_get (take m xs) n ≡ Some x → (n < m) × (slice_get xs n ≡ Some x)
get_take xs zero n x e = absurd (none-some x e)
get_take [] (suc m) n x e = absurd (none-some x e)
get_take (y ∷ xs) (suc m) zero x e = (omega arith, e)
get_take (y ∷ xs) (suc m) (suc n) x e = let later = get_take xs m n x e in (omega (arith, later.0), later.1)

length_take : {A : Type 0} (xs : List A) (m : ℕ) → m ≤ length xs → length (take m xs) ≡ m
length_take xs zero fits = refl
length_take [] (suc m) fits = absurd (omega arith)
length_take (x ∷ xs) (suc m) fits = ap suc (length_take xs m (omega arith))

length_end : {A : Type 0} (xs : List A) (x : A) → length (xs ++ x ∷ []) ≡ length xs + 1
length_end [] x = omega arith
length_end (y ∷ xs) x = let later = length_end xs x in omega (arith, later)

-- Assuming.

reached_more : (r : Reached) (steps more : List Step) (w : Watching) → HasReached r steps w → HasReached r (steps ++ more) w
reached_more r steps more w h = record {
  guarded = guarded_more r.steps steps more w.pairs.items h.within h.guarded;
  sure = sure_more r.singles steps more w.singles.items (held w) h.sure;
  within = let longer = front_length steps (steps ++ more) (more, refl) in omega (arith, longer, h.within);
  counted = h.counted;
}

pub sound_saved : (steps : List Step) (w : Watching) (r : Reached) (saved later : List Reached) → later ≡ saved → Sound steps w r saved → Sound steps w r later
sound_saved steps w r saved later e s = subst (λ xs. Sound steps w r xs) (sym e) s

sound_assumed-at : (steps : List Step) (a : Lit) (w : Watching) (r : Reached) (saved : List Reached) → Sound steps w r saved → Sound (steps ++ assumed a ∷ []) w r (saved ++ r ∷ [])
sound_assumed-at steps a w r saved s = record {
  stored = s.stored;
  covers = covers_front steps (steps ++ assumed a ∷ []) w (assumed a ∷ [], refl) s.covers;
  present = reached_more r steps (assumed a ∷ []) w s.present;
  depth = let pushed = level_push steps (assumed a) in omega (arith, length_end saved r, s.depth, pushed);
  levels = λ n q e. elim (get_push saved r n q e) [
    | inl before ↦
        let within = slice_get_within saved n q before in
        subst (λ xs. HasReached q xs w) (sym (cut_last n steps (assumed a) (omega (arith, within, s.depth, level_push steps (assumed a))))) (s.levels n q before)
    | inr last ↦
        subst (λ (p : Reached). HasReached p (up_to_level n (steps ++ assumed a ∷ [])) w) (sym last.1)
        (subst (λ k. HasReached r (up_to_level k (steps ++ assumed a ∷ [])) w) (sym (last.0 ∙ s.depth))
        (subst (λ xs. HasReached r xs w) (sym (cut_at_level steps a [])) s.present))
  ];
}

pub sound_assumed : (steps later : List Step) (a : Lit) (w : Watching) (r : Reached) (saved more : List Reached) → later ≡ steps ++ assumed a ∷ [] → more ≡ saved ++ r ∷ []
    → Sound steps w r saved → Sound later w r more
sound_assumed steps later a w r saved more e f s =
    subst (λ xs. Sound xs w r more) (sym e) (subst (λ xs. Sound (steps ++ assumed a ∷ []) w r xs) (sym f) (sound_assumed-at steps a w r saved s))

-- Going back.

back_present : (steps : List Step) (w : Watching) (r : Reached) (saved : List Reached) (target : ℕ) (o : Option Reached) → slice_get saved target ≡ o → Sound steps w r saved
    → HasReached (unwrap_or o r) (up_to_level target steps) w
back_present steps w r saved target None e s =
    let past = get_past saved target e in
    subst (λ xs. HasReached r xs w) (sym (cut_nothing target steps (omega (arith, past, s.depth)))) s.present
back_present steps w r saved target (Some q) e s = s.levels target q e

pub sound_back : (steps later : List Step) (w : Watching) (r q : Reached) (saved fewer : List Reached) (target : ℕ) → target ≤ level steps → later ≡ up_to_level target steps
    → level later ≡ target → q ≡ unwrap_or (slice_get saved target) r → fewer ≡ take target saved → Sound steps w r saved → Sound later w q fewer
sound_back steps later w r q saved fewer target fits is deep at cut s = record {
  stored = s.stored;
  covers =
      covered_grow (is_fixed steps) (is_fixed later) w.lists w.pairs.items
      (λ a e. ap (λ xs. is_fixed xs a) is ∙ ap (λ xs. is_true xs a) (cut_twice 0 target steps (omega arith)) ∙ e) s.covers;
  present = subst (λ xs. HasReached q xs w) (sym is) (subst (λ (p : Reached). HasReached p (up_to_level target steps) w) (sym at) (back_present steps w r saved target (slice_get saved target) refl s));
  depth = ap length cut ∙ length_take saved target (omega (arith, fits, s.depth)) ∙ sym deep;
  levels = λ n p e.
      let there = get_take saved target n p (ap (λ xs. slice_get xs n) (sym cut) ∙ e) in
      subst (λ xs. HasReached p (up_to_level n xs) w) (sym is)
      (subst (λ xs. HasReached p xs w) (sym (cut_twice n target steps (omega (arith, there.0)))) (s.levels n p there.1));
}

-- Propagating.

pub sure_rewatched : (n : ℕ) (steps : List Step) (w u : Watching) → IsRewatched w u → AreSure n steps w.singles.items (held w) → AreSure n steps u.singles.items (held u)
sure_rewatched n steps w u same all =
    subst (λ v. AreSure n steps v.items (held u)) (sym same.singles) (subst (λ cs. AreSure n steps w.singles.items cs) (sym (held_same w u same)) all)

reached_rewatched : (q : Reached) (front steps : List Step) (w u : Watching) → IsFront front steps → IsRewatched w u → KeepsGuards steps w.pairs.items u.pairs.items
    → HasReached q front w → HasReached q front u
reached_rewatched q front steps w u f same keeps h = record {
  guarded = keeps q.steps front f h.guarded;
  sure = sure_rewatched q.singles front w u same h.sure;
  within = h.within;
  counted = subst (λ v. q.singles ≤ length v.items) (sym same.singles) h.counted;
}

pub sound_settled : (steps later : List Step) (clauses : List (List Lit)) (w u : Watching) (r q : Reached) (saved : List Reached) → Propagates clauses steps later → IsRewatched w u
    → Covers (is_fixed later) u → KeepsGuards steps w.pairs.items u.pairs.items → HasReached q later u → Sound steps w r saved → Sound later u q saved
sound_settled steps later clauses w u r q saved p same covers keeps present s = record {
  stored = same.stored;
  covers = covers;
  present = present;
  depth = s.depth ∙ sym (propagates_level clauses steps later p);
  levels = λ n earlier e.
      let within = slice_get_within saved n earlier e in
      subst (λ xs. HasReached earlier (up_to_level n xs) u) (sym p.behind)
      (subst (λ xs. HasReached earlier xs u) (sym (cut_more n steps p.added (omega (arith, within, s.depth))))
      (reached_rewatched earlier (up_to_level n steps) steps w u (cut_front n steps) same keeps (s.levels n earlier e)));
}

pub sound_steps : (steps later : List Step) (w : Watching) (r : Reached) (saved : List Reached) → later ≡ steps → Sound steps w r saved → Sound later w r saved
sound_steps steps later w r saved e s = subst (λ xs. Sound xs w r saved) (sym e) s
