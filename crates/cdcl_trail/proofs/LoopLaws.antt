-- Laws of the loops of propagation.
use Rattle.std.proofs.Common.{◌≡◌, ℕ, zero, suc, ◌+◌, ◌-◌, ◌<◌, ◌≤◌, Bool, true, false, not, eqb, eqb-true, List, [], ◌∷◌, ◌++◌, length, map, Option, Some, None, refl, ap, sym, subst, ◌∙◌, ◌⊎◌, inl, inr, arith, append_assoc}
use Rattle.std.specs.Prelude.{slice_get}
use Rattle.std.specs.List.{list_any}
use Rattle.std.specs.Option.{option_map}
use Rattle.std.proofs.lemmas.Bool.{false≢true, and_parts, or_left, or_right, cond-true, cond-false, eq-eqb}
use Rattle.std.proofs.lemmas.List.{append-nil}
use Rattle.std.proofs.lemmas.Option.{none-some, same_Some, slice_get_within}
use Rattle.clause_arena.specs.Lending.{lent}
use Rattle.proof_semantics.specs.Clauses.{bool_eq, lit_eq, negation}
use Rattle.proof_semantics.specs.declared.literals.Lit.{Lit}
use Rattle.proof_semantics.proofs.LiteralLaws.{lit_eq-true, bool_eq-same, not-not}
use Rattle.packed_literals.specs.Lists.{IsIn, list_for}
use Rattle.packed_literals.proofs.ListLaws.{get_in_append}
use Rattle.cdcl_trail.specs.Trails.{Step, step, literals_of, step_of, once}
use Rattle.cdcl_trail.specs.Propagation.{is_value, is_true, is_false, is_fixed, is_falsified, IsForced, AreForced, Propagates, IsConflict}
use Rattle.cdcl_trail.specs.Measure.{unsatisfied}
use Rattle.cdcl_trail.specs.Guards.{IsDone, AreDone, AreGuarded, AreSure, IsFront, KeepsGuards}
use Rattle.cdcl_trail.specs.Storing.{held, IsStored, IsRewatched, IsPairAt, Covers}
use Rattle.cdcl_trail.specs.Visiting.{IsVisited, IsVisiting, IsSettling, AreSettling, IsSettled}
use Rattle.cdcl_trail.specs.declared.pairs.Pair.{Pair}
use Rattle.cdcl_trail.specs.declared.watching.Watching.{Watching}
use Rattle.cdcl_trail.proofs.TrailLaws.{either, not-true}
use Rattle.cdcl_trail.proofs.PassLaws.{propagates_none, propagates_more, propagates_one, forced_at, held_at, unit_counts, numbered_at}
use Rattle.cdcl_trail.proofs.PrefixLaws.{true_more}
use Rattle.cdcl_trail.proofs.FixedLaws.{fixed_true}
use Rattle.cdcl_trail.proofs.GuardLaws.{front_same, keeps_same, keeps_more, guarded_more, guarded_next, sure_more}

pub get_past : {A : Type 0} (xs : List A) (i : ℕ) → slice_get xs i ≡ None → length xs ≤ i
get_past [] i e = omega arith
get_past (x ∷ xs) zero e = absurd (none-some x (sym e))
get_past (x ∷ xs) (suc i) e = let later = get_past xs i e in omega (arith, later)

-- The same clauses.

pub held_same : (w u : Watching) → IsRewatched w u → held u ≡ held w
held_same w u r = ap (λ xs. map (lent xs) u.places.items) r.arena ∙ ap (λ v. map (lent w.arena) v.items) r.places

pub rewatched_same : (w : Watching) → IsStored w → IsRewatched w w
rewatched_same w stored = record { arena = refl; places = refl; singles = refl; stored = stored }

pub rewatched_then : (w u x : Watching) → IsRewatched w u → IsRewatched u x → IsRewatched w x
rewatched_then w u x first second = record {
  arena = second.arena ∙ first.arena;
  places = second.places ∙ first.places;
  singles = second.singles ∙ first.singles;
  stored = second.stored;
}

pub propagates_held : (w u : Watching) (a b : List Step) → IsRewatched w u → Propagates (held u) a b → Propagates (held w) a b
propagates_held w u a b r p = subst (λ cs. Propagates cs a b) (held_same w u r) p

pub conflict_held : (w u : Watching) (steps : List Step) (n : ℕ) → IsRewatched w u → IsConflict (held u) steps n → IsConflict (held w) steps n
conflict_held w u steps n r p = subst (λ cs. IsConflict cs steps n) (held_same w u r) p

pub front_of : (clauses : List (List Lit)) (a b : List Step) → Propagates clauses a b → IsFront a b
front_of clauses a b p = (p.added, p.behind)

done_front : (a b : List Step) (l : Lit) (pair : Pair) → IsFront a b → IsDone a l pair → IsDone b l pair
done_front a b l pair f d = (
  λ e. ap (λ xs. is_true xs pair.second) f.1 ∙ true_more a f.0 pair.second (d.0 e),
  λ e. ap (λ xs. is_true xs pair.first) f.1 ∙ true_more a f.0 pair.first (d.1 e),
)

-- Looks at the clauses of a list.

pub visiting_start : (w : Watching) (steps : List Step) (a : Lit) → IsStored w → Covers (is_fixed steps) w → IsVisiting w steps w steps a 0
visiting_start w steps a stored covers = record {
  covers = covers;
  rewatched = rewatched_same w stored;
  steps = propagates_none (held w) steps;
  keeps = keeps_same steps w.pairs.items;
  done = λ j n pair under. absurd (omega (arith, under));
  within = omega arith;
}

-- what a look leaves of what was done before
pub record Goes (w : Watching) (before : List Step) (x : Watching) (after : List Step) (a : Lit) (place : ℕ) : Type 0 where
  pub rewatched : IsRewatched w x
  pub steps : Propagates (held w) before after
  pub keeps : KeepsGuards before w.pairs.items x.pairs.items
  pub done : (j n : ℕ) (pair : Pair) → j < place → slice_get (list_for x.lists a) j ≡ Some n → IsPairAt x n pair → IsDone after a pair

pub goes : (w u x : Watching) (s t r : List Step) (a : Lit) (place : ℕ) → IsVisiting w s u t a place → IsVisited u t x r a place → Goes w s x r a place
goes w u x s t r a place v n = record {
  rewatched = rewatched_then w u x v.rewatched n.rewatched;
  steps = propagates_more (held w) s t r v.steps (propagates_held w u t r v.rewatched n.steps);
  keeps = keeps_more s t w.pairs.items u.pairs.items x.pairs.items (front_of (held w) s t v.steps) v.keeps n.keeps;
  done = λ j m pair under e at. elim (n.done m pair at) [
    | inl old ↦ done_front t r a pair (front_of (held u) t r n.steps) (v.done j m pair under (sym (n.below j under) ∙ e) old)
    | inr new ↦ new
  ];
}

pub below_next : (j n : ℕ) → j < n + 1 → (j < n) ⊎ (j ≡ n)
below_next j zero e = inr (omega arith)
below_next zero (suc n) e = inl (omega arith)
below_next (suc j) (suc n) e = elim (below_next j n (omega arith)) [ inl under ↦ inl (omega (arith, under)) | inr same ↦ inr (ap suc same) ]

pub visiting_stands : (w u x : Watching) (s t r : List Step) (a : Lit) (place number : ℕ) → slice_get (list_for u.lists a) place ≡ Some number
    → IsVisiting w s u t a place → IsVisited u t x r a place → (x.lists ≡ u.lists) × ((pair : Pair) → IsPairAt x number pair → IsDone r a pair)
    → IsVisiting w s x r a (place + 1)
visiting_stands w u x s t r a place number entry v n says =
    let g = goes w u x s t r a place v n in
    let there : slice_get (list_for x.lists a) place ≡ Some number = ap (λ ls. slice_get (list_for ls a) place) says.0 ∙ entry in
    let within = slice_get_within (list_for x.lists a) place number there in
    record {
      rewatched = g.rewatched;
      steps = g.steps;
      keeps = g.keeps;
      covers = n.covers;
      done = λ j m pair under e at. elim (below_next j place under) [
        | inl less ↦ g.done j m pair less e at
        | inr same ↦
            let is : m ≡ number = same_Some m number (sym e ∙ ap (slice_get (list_for x.lists a)) same ∙ there) in
            says.1 pair (subst (λ k. IsPairAt x k pair) is at)
      ];
      within = omega (arith, within);
    }

pub visiting_left : (w u x : Watching) (s t r : List Step) (a : Lit) (place number : ℕ) → slice_get (list_for u.lists a) place ≡ Some number
    → IsVisiting w s u t a place → IsVisited u t x r a place → suc (length (list_for x.lists a)) ≡ length (list_for u.lists a) → IsVisiting w s x r a place
visiting_left w u x s t r a place number entry v n shorter =
    let g = goes w u x s t r a place v n in
    let within = slice_get_within (list_for u.lists a) place number entry in
    record { rewatched = g.rewatched; steps = g.steps; keeps = g.keeps; covers = n.covers; done = g.done; within = omega (arith, within, shorter) }

done_in : (w u : Watching) (s t : List Step) (a b : Lit) (place n : ℕ) (pair : Pair) → IsVisiting w s u t a place → slice_get (list_for u.lists a) place ≡ None
    → IsPairAt u n pair → lit_eq b a ≡ true → IsIn (list_for u.lists b) n → IsDone t a pair
done_in w u s t a b place n pair v end at same inside =
    let there = subst (λ (x : Lit). IsIn (list_for u.lists x) n) (lit_eq-true b a same) inside in
    let within = slice_get_within (list_for u.lists a) there.0 n there.1 in
    let past = get_past (list_for u.lists a) place end in
    v.done there.0 n pair (omega (arith, within, past)) there.1 at

pub visiting_end : (w u : Watching) (s t : List Step) (a : Lit) (place : ℕ) → IsVisiting w s u t a place → slice_get (list_for u.lists a) place ≡ None → AreDone t a u.pairs.items
visiting_end w u s t a place v end n pair at =
    let here = v.covers n pair at in (
      λ e. elim here.0 [
        | inl inside ↦ (done_in w u s t a pair.first place n pair v end at e inside).0 e
        | inr fixed ↦ fixed_true t pair.second fixed
      ],
      λ e. elim here.1 [
        | inl inside ↦ (done_in w u s t a pair.second place n pair v end at e inside).1 e
        | inr fixed ↦ fixed_true t pair.first fixed
      ],
    )

-- Steps one after the other.

any_var : (steps : List Step) (n v : ℕ) (x : Step) → slice_get steps n ≡ Some x → eqb x.literal.var v ≡ true → list_any (λ (b : Lit). eqb b.var v) (literals_of steps) ≡ true
any_var [] n v x e same = absurd (none-some x e)
any_var (y ∷ steps) zero v x e same = or_left (eqb y.literal.var v) _ (ap (λ (z : Step). eqb z.literal.var v) (same_Some y x e) ∙ same)
any_var (y ∷ steps) (suc n) v x e same = or_right (eqb y.literal.var v) _ (any_var steps n v x e same)

eqb_turn : (m n : ℕ) → eqb m n ≡ true → eqb n m ≡ true
eqb_turn m n e = eq-eqb n m (sym (eqb-true m n e))

step_at : (steps : List Step) (n : ℕ) (x : Step) → once (literals_of steps) ≡ true → slice_get steps n ≡ Some x → step_of steps x.literal.var ≡ Some x
step_at [] n x all e = absurd (none-some x e)
step_at (y ∷ steps) zero x all e =
    let same : y ≡ x = same_Some y x e in
    cond-true (eqb y.literal.var x.literal.var) (Some y) (step_of steps x.literal.var) (eq-eqb y.literal.var x.literal.var (ap (λ (z : Step). z.literal.var) same)) ∙ e
step_at (y ∷ steps) (suc n) x all e =
    let parts = and_parts _ _ all in
    elim (either (eqb y.literal.var x.literal.var)) [
      | inl same ↦ absurd (false≢true (sym (not-true _ parts.0) ∙ any_var steps n y.literal.var x e (eqb_turn y.literal.var x.literal.var same)))
      | inr differs ↦ cond-false (eqb y.literal.var x.literal.var) (Some y) (step_of steps x.literal.var) differs ∙ step_at steps n x parts.1 e
    ]

-- the step of a literal by its place
pub step_in : (steps : List Step) (n : ℕ) (a : Lit) → slice_get (literals_of steps) n ≡ Some a → (x : Step) × (slice_get steps n ≡ Some x) × (x.literal ≡ a)
step_in [] n a e = absurd (none-some a e)
step_in (x ∷ steps) zero a e = (x, refl, same_Some x.literal a e)
step_in (x ∷ steps) (suc n) a e = step_in steps n a e

pub negation_false : (steps : List Step) (n : ℕ) (a : Lit) → once (literals_of steps) ≡ true → slice_get (literals_of steps) n ≡ Some a → is_false steps (negation a) ≡ true
negation_false steps n a all e =
    let found = step_in steps n a e in
    subst (λ (b : Lit). is_false steps (negation b) ≡ true) found.2
    (ap (λ p. is_value (option_map (λ (s : Step). s.literal.positive) p) (not (not found.0.literal.positive))) (step_at steps n found.0 all found.1)
    ∙ ap (bool_eq found.0.literal.positive) (not-not found.0.literal.positive) ∙ bool_eq-same found.0.literal.positive)

pub settling_start : (w : Watching) (steps : List Step) (n : ℕ) → IsStored w → Covers (is_fixed steps) w → n ≤ length steps → AreGuarded n steps w.pairs.items
    → IsSettling w steps w steps n
settling_start w steps n stored covers within guarded = record {
  covers = covers;
  rewatched = rewatched_same w stored;
  steps = propagates_none (held w) steps;
  keeps = keeps_same steps w.pairs.items;
  within = within;
  guarded = guarded;
}

pub guarded_front : (n : ℕ) (a b : List Step) (pairs : List (Option Pair)) → IsFront a b → n ≤ length a → AreGuarded n a pairs → AreGuarded n b pairs
guarded_front n a b pairs f within all = subst (λ xs. AreGuarded n xs pairs) (sym f.1) (guarded_more n a f.0 pairs within all)

length_app : (xs ys : List Step) → length (xs ++ ys) ≡ length xs + length ys
length_app [] ys = omega arith
length_app (x ∷ xs) ys = let later = length_app xs ys in omega (arith, later)

pub front_length : (a b : List Step) → IsFront a b → length a ≤ length b
front_length a b f = omega (arith, ap length f.1, length_app a f.0)

-- where the looks for a step ended early
pub settling_stopped : (w u x : Watching) (s t r : List Step) (n : ℕ) → IsSettling w s u t n → IsRewatched u x → Covers (is_fixed r) x → Propagates (held u) t r
    → KeepsGuards t u.pairs.items x.pairs.items → IsSettling w s x r n
settling_stopped w u x s t r n v rewatched covers steps keeps = record {
  covers = covers;
  rewatched = rewatched_then w u x v.rewatched rewatched;
  steps = propagates_more (held w) s t r v.steps (propagates_held w u t r v.rewatched steps);
  keeps = keeps_more s t w.pairs.items u.pairs.items x.pairs.items (front_of (held w) s t v.steps) v.keeps keeps;
  within = let longer = front_length t r (front_of (held u) t r steps) in omega (arith, longer, v.within);
  guarded = guarded_front n t r x.pairs.items (front_of (held u) t r steps) v.within (keeps n t (front_same t) v.guarded);
}

next_is : (n : ℕ) → suc n ≡ n + 1
next_is n = omega arith

get_front : (a b : List Step) (n : ℕ) (x : Step) → IsFront a b → slice_get a n ≡ Some x → slice_get b n ≡ Some x
get_front a b n x f e = ap (λ xs. slice_get xs n) f.1 ∙ get_in_append a f.0 n x e

pub settling_next : (w u x : Watching) (s t r : List Step) (n : ℕ) (a : Lit) → IsSettling w s u t n → IsRewatched u x → Covers (is_fixed r) x → Propagates (held u) t r
    → KeepsGuards t u.pairs.items x.pairs.items → slice_get (literals_of t) n ≡ Some a → AreDone r (negation a) x.pairs.items → IsSettling w s x r (n + 1)
settling_next w u x s t r n a v rewatched covers steps keeps at done =
    let stopped = settling_stopped w u x s t r n v rewatched covers steps keeps in
    let found = step_in t n a at in
    let front = front_of (held u) t r steps in
    let there : slice_get r n ≡ Some found.0 = get_front t r n found.0 front found.1 in
    let within = slice_get_within r n found.0 there in
    record {
      rewatched = stopped.rewatched;
      steps = stopped.steps;
      keeps = stopped.keeps;
      covers = covers;
      within = omega (arith, within);
      guarded = subst (λ k. AreGuarded k r x.pairs.items) (next_is n)
          (guarded_next n r x.pairs.items found.0 there stopped.guarded (subst (λ (b : Lit). AreDone r (negation b) x.pairs.items) (sym found.2) done));
    }

-- the measure
forced_less : (clauses : List (List Lit)) (before : List Step) (x : Step) → IsForced clauses before x → unsatisfied clauses (before ++ x ∷ []) < unsatisfied clauses before
forced_less clauses before x f =
    let is : step x.literal (Some f.number) ≡ x = ap (step x.literal) (sym f.reason) in
    subst (λ y. unsatisfied clauses (before ++ y ∷ []) < unsatisfied clauses before) is
    (unit_counts clauses (f.number - 1) before f.clause x.literal f.number (held_at clauses f.number f.clause f.held) f.left)

forced_falls : (clauses : List (List Lit)) (before added : List Step) → AreForced clauses before added → unsatisfied clauses (before ++ added) + length added ≤ unsatisfied clauses before
forced_falls clauses before [] all = let same = ap (unsatisfied clauses) (append-nil before) in omega (arith, same)
forced_falls clauses before (x ∷ added) all =
    let later = forced_falls clauses (before ++ x ∷ []) added all.1 in
    let same = ap (unsatisfied clauses) (append_assoc before (x ∷ []) added) in
    let here = forced_less clauses before x all.0 in
    omega (arith, later, same, here)

pub measure_falls : (clauses : List (List Lit)) (t r : List Step) → Propagates clauses t r → unsatisfied clauses r + length r ≤ unsatisfied clauses t + length t
measure_falls clauses t r p =
    let falls = forced_falls clauses t p.added p.reasons in
    let same = ap (unsatisfied clauses) p.behind in
    let long = ap length p.behind ∙ length_app t p.added in
    omega (arith, falls, same, long)

pub smaller_here : (m n place : ℕ) → m ≡ n → place < n → m - (place + 1) < n - place
smaller_here m n place e within = omega (arith, e, within)

pub smaller_left : (m n place : ℕ) → suc m ≡ n → place < n → m - place < n - place
smaller_left m n place e within = omega (arith, e, within)

pub steps_smaller : (w u : Watching) (t r : List Step) (n : ℕ) (a : Lit) → IsRewatched w u → Propagates (held u) t r → slice_get (literals_of t) n ≡ Some a
    → unsatisfied (held w) r + (length r - (n + 1)) < unsatisfied (held w) t + (length t - n)
steps_smaller w u t r n a rewatched steps at =
    let falls = measure_falls (held w) t r (propagates_held w u t r rewatched steps) in
    let found = step_in t n a at in
    let within = slice_get_within t n found.0 found.1 in
    let longer = front_length t r (front_of (held u) t r steps) in
    omega (arith, falls, within, longer)

length_literals : (steps : List Step) → length (literals_of steps) ≡ length steps
length_literals [] = refl
length_literals (x ∷ steps) = ap suc (length_literals steps)

pub settling_end : (w u : Watching) (s t : List Step) (n : ℕ) → IsSettling w s u t n → slice_get (literals_of t) n ≡ None → n ≡ length t
settling_end w u s t n v e =
    let past = get_past (literals_of t) n e in
    let long = length_literals t in
    omega (arith, past, long, v.within)

-- Clauses without two different literals.

pub settled_propagates : (clauses : List (List Lit)) (number : ℕ) (clause : List Lit) (t r : List Step) → slice_get clauses number ≡ Some clause → IsSettled clause (number + 1) t r
    → Propagates clauses t r
settled_propagates clauses number clause t r is (inl same) = subst (λ xs. Propagates clauses t xs) (sym same) (propagates_none clauses t)
settled_propagates clauses number clause t r is (inr came) =
    subst (λ xs. Propagates clauses t xs) (sym came.2) (propagates_one clauses t (step came.0 (Some (number + 1))) (forced_at clauses number t clause came.0 is came.1))

pub sure_front : (n : ℕ) (t r : List Step) (singles : List ℕ) (clauses : List (List Lit)) → IsFront t r → AreSure n t singles clauses → AreSure n r singles clauses
sure_front n t r singles clauses f all = subst (λ xs. AreSure n xs singles clauses) (sym f.1) (sure_more n t f.0 singles clauses all)

pub are_settling_start : (w : Watching) (s : List Step) (n : ℕ) → AreSettling w s n s n
are_settling_start w s n = record { steps = propagates_none (held w) s; sure = λ all. all; counted = λ e. e }

pub are_settling_on : (w : Watching) (s t r : List Step) (m n number : ℕ) (clause : List Lit) → AreSettling w s m t n → slice_get (held w) number ≡ Some clause
    → IsSettled clause (number + 1) t r → AreSettling w s m r n
are_settling_on w s t r m n number clause v is settled =
    let more = settled_propagates (held w) number clause t r is settled in
    record {
      steps = propagates_more (held w) s t r v.steps more;
      sure = λ all. sure_front n t r w.singles.items (held w) (front_of (held w) t r more) (v.sure all);
      counted = v.counted;
    }

sure_next : (n number : ℕ) (t : List Step) (singles : List ℕ) (clauses : List (List Lit)) → slice_get singles n ≡ Some number
    → ((clause : List Lit) → slice_get clauses number ≡ Some clause → list_any (is_true t) clause ≡ true) → AreSure n t singles clauses → AreSure (n + 1) t singles clauses
sure_next n number t singles clauses at here all j place clause under e is =
    elim (below_next j n under) [
      | inl less ↦ all j place clause less e is
      | inr same ↦
          let one : place ≡ number = same_Some place number (sym e ∙ ap (slice_get singles) same ∙ at) in
          here clause (ap (slice_get clauses) (sym one) ∙ is)
    ]

pub are_settling_next : (w : Watching) (s t : List Step) (m n number : ℕ) → AreSettling w s m t n → slice_get w.singles.items n ≡ Some number
    → ((clause : List Lit) → slice_get (held w) number ≡ Some clause → list_any (is_true t) clause ≡ true) → AreSettling w s m t (n + 1)
are_settling_next w s t m n number v at here = record {
  steps = v.steps;
  sure = λ all. sure_next n number t w.singles.items (held w) at here (v.sure all);
  counted = λ e. let within = slice_get_within w.singles.items n number at in omega (arith, within);
}

pub true_here : (clauses : List (List Lit)) (number : ℕ) (clause : List Lit) (t : List Step) → slice_get clauses number ≡ Some clause → list_any (is_true t) clause ≡ true
    → (c : List Lit) → slice_get clauses number ≡ Some c → list_any (is_true t) c ≡ true
true_here clauses number clause t is holds c e = ap (list_any (is_true t)) (same_Some c clause (sym e ∙ is)) ∙ holds

pub conflict_at : (clauses : List (List Lit)) (number : ℕ) (clause : List Lit) (t : List Step) → slice_get clauses number ≡ Some clause → is_falsified t clause ≡ true
    → IsConflict clauses t (number + 1)
conflict_at clauses number clause t is gone = (clause, numbered_at clauses number clause is, gone)

pub singles_past : (xs : List ℕ) (n : ℕ) → slice_get xs n ≡ None → length xs ≤ n
singles_past xs n e = get_past xs n e

pub not_false : (b : Bool) → not b ≡ false → b ≡ true
not_false true e = refl
not_false false e = absurd (false≢true (sym e))
