-- Laws of a look at one clause.
use Rattle.std.proofs.Common.{◌≡◌, ℕ, ◌<◌, true, false, not, ◌||◌, List, [], ◌∷◌, ◌++◌, take, Option, Some, None, refl, ap, sym, subst, ◌∙◌, ◌⊎◌, inl, inr, length, arith, zero, suc, ◌+◌, Bool, get_or, drop}
use Rattle.std.specs.Prelude.{slice_get, is_some}
use Rattle.std.specs.List.{list_any, list_all}
use Rattle.std.specs.Option.{option_map, IfNone}
use Rattle.std.proofs.Math.ListN.{set}
use Rattle.std.proofs.lemmas.Bool.{false≢true, and_from, or_cases, or_left, or_right}
use Rattle.std.proofs.lemmas.List.{drop_more}
use Rattle.std.proofs.lemmas.Option.{none-some, same_Some}
use Rattle.proof_semantics.specs.Clauses.{lit_eq, has_literal}
use Rattle.proof_semantics.specs.declared.literals.Lit.{Lit}
use Rattle.proof_semantics.proofs.LiteralLaws.{lit_eq-true, lit_eq-same, bool_eq-same}
use Rattle.packed_literals.specs.Lists.{list_for}
use Rattle.packed_literals.proofs.ListLaws.{get_set, get_set_other, place_either}
use Rattle.cdcl_trail.specs.Trails.{Step, step, forced, value_of}
use Rattle.cdcl_trail.specs.Propagation.{is_value, is_true, is_false, is_fixed, is_falsified, is_unit_for}
use Rattle.cdcl_trail.specs.Guards.{IsPairOf, IsSingle, IsGuarded, IsDone, IsFront, KeepsGuards}
use Rattle.cdcl_trail.specs.Looking.{IsReplacement}
use Rattle.cdcl_trail.specs.Looking.{StandsBeside}
use Rattle.cdcl_trail.specs.Storing.{held, IsStored, IsRewatched, IsPairAt, IsOther, Covers, AreCovered}
use Rattle.cdcl_trail.specs.Visiting.{IsVisited, IsUnlisted, IsWatchedBeside, SkipSays, VisitSays}
use Rattle.cdcl_trail.specs.declared.propagation.Visited.{Visited}
use Rattle.cdcl_trail.specs.declared.propagation.Visited.TheVariants.{Stands, Left, Conflict}
use Rattle.cdcl_trail.specs.declared.pairs.Pair.{Pair}
use Rattle.cdcl_trail.specs.declared.watching.Watching.{Watching}
use Rattle.cdcl_trail.proofs.TrailLaws.{either, or_neither}
use Rattle.cdcl_trail.proofs.ScanLaws.{all_has}
use Rattle.cdcl_trail.proofs.PassLaws.{step_comes, no_step, propagates_none, propagates_one, forced_at}
use Rattle.cdcl_trail.proofs.PrefixLaws.{all_from}
use Rattle.cdcl_trail.proofs.GuardLaws.{guarded_moved, guarded_swap, keeps_same}
use Rattle.cdcl_trail.proofs.ScanLaws.{one_value}
use Rattle.cdcl_trail.proofs.StoreLaws.{lit_apart, stores_same, covered_unlisted}
use Rattle.cdcl_trail.proofs.FixedLaws.{covers_front}

pub has_other : (clause : List Lit) (pair : Pair) (a b : Lit) → IsPairOf clause pair → IsOther pair a b → has_literal clause b ≡ true
has_other clause pair a b of (inl e) = subst (λ (x : Lit). has_literal clause x ≡ true) e.1 of.second
has_other clause pair a b of (inr e) = subst (λ (x : Lit). has_literal clause x ≡ true) e.1 of.first

pub other_apart : (clause : List Lit) (pair : Pair) (a b : Lit) → IsPairOf clause pair → IsOther pair a b → lit_eq b a ≡ false
other_apart clause pair a b of (inl e) =
    lit_apart a b (ap (λ (x : Lit). lit_eq x b) (sym e.0) ∙ ap (lit_eq pair.first) (sym e.1) ∙ of.apart)
other_apart clause pair a b of (inr e) = ap (λ (x : Lit). lit_eq x a) (sym e.1) ∙ ap (lit_eq pair.first) (sym e.0) ∙ of.apart

has_own : (clause : List Lit) (pair : Pair) (a b : Lit) → IsPairOf clause pair → IsOther pair a b → has_literal clause a ≡ true
has_own clause pair a b of (inl e) = subst (λ (x : Lit). has_literal clause x ≡ true) e.0 of.first
has_own clause pair a b of (inr e) = subst (λ (x : Lit). has_literal clause x ≡ true) e.0 of.second

-- a pair, with the given literal first
pub pair_turned : (clause : List Lit) (pair : Pair) (a b : Lit) → IsPairOf clause pair → IsOther pair a b → IsPairOf clause (record { first = a; second = b })
pair_turned clause pair a b of other = record {
  first = has_own clause pair a b of other;
  second = has_other clause pair a b of other;
  apart = lit_apart b a (other_apart clause pair a b of other);
}

-- Literals from the last to the first.

pub has_at : (xs : List Lit) (p : ℕ) (d : Lit) → p < length xs → has_literal xs (get_or xs p d) ≡ true
has_at [] p d below = absurd (omega (arith, below))
has_at (x ∷ xs) zero d below = or_left _ _ (lit_eq-same x)
has_at (x ∷ xs) (suc p) d below = or_right _ _ (has_at xs p d (omega (arith, below)))

pub all_behind : (f : Lit → Bool) (xs : List Lit) (p q : ℕ) (d : Lit) → q ≡ p + 1 → p < length xs → f (get_or xs p d) ≡ true
    → list_all f (drop q xs) ≡ true → list_all f (drop p xs) ≡ true
all_behind f xs p q d next below holds behind =
    ap (list_all f) (drop_more xs p d below) ∙ and_from _ _ holds (ap (λ n. list_all f (drop n xs)) (sym next) ∙ behind)

-- a literal that is not passed
pub replaces : (steps : List Step) (clause : List Lit) (other a : Lit) → has_literal clause a ≡ true → (lit_eq other a || is_false steps a) ≡ false
    → IsReplacement steps clause other a
replaces steps clause other a has open_too =
    let parts = or_neither _ _ open_too in record { inside = has; unfalsified = parts.1; apart = parts.0 }

-- Clauses of two literals.

in_two : (x y a : Lit) → has_literal (x ∷ y ∷ []) a ≡ true → (a ≡ x) ⊎ (a ≡ y)
in_two x y a has =
    elim (or_cases _ _ has) [
      | inl here ↦ inl (lit_eq-true a x here)
      | inr later ↦
          elim (or_cases _ _ later) [
            | inl there ↦ inr (lit_eq-true a y there)
            | inr none ↦ absurd (false≢true none)
          ]
    ]

-- where one of two literals is false, none but the other is open
pub two_done : (steps : List Step) (clause : List Lit) (a b : Lit) → length clause ≡ 2 → IsPairOf clause (record { first = a; second = b })
    → is_false steps a ≡ true → list_all (λ x. lit_eq b x || is_false steps x) clause ≡ true
two_done steps [] a b e of gone = refl
two_done steps (x ∷ []) a b e of gone = absurd (omega (arith, e))
two_done steps (x ∷ y ∷ []) a b e of gone =
    elim (in_two x y a of.first) [
      | inl here ↦
          elim (in_two x y b of.second) [
            | inl same ↦ absurd (false≢true (sym of.apart ∙ ap (lit_eq a) (same ∙ sym here) ∙ lit_eq-same a))
            | inr there ↦
                and_from _ _ (or_right _ _ (ap (is_false steps) (sym here) ∙ gone))
                (and_from _ _ (or_left _ _ (ap (lit_eq b) (sym there) ∙ lit_eq-same b)) refl)
          ]
      | inr there ↦
          elim (in_two x y b of.second) [
            | inl here ↦
                and_from _ _ (or_left _ _ (ap (lit_eq b) (sym here) ∙ lit_eq-same b))
                (and_from _ _ (or_right _ _ (ap (is_false steps) (sym there) ∙ gone)) refl)
            | inr same ↦ absurd (false≢true (sym of.apart ∙ ap (lit_eq a) (same ∙ sym there) ∙ lit_eq-same a))
          ]
    ]
two_done steps (x ∷ y ∷ z ∷ clause) a b e of gone = absurd (omega (arith, e))

pub pair_found : (steps : List Step) (clause : List Lit) (b m : Lit) → has_literal clause b ≡ true → IsReplacement steps clause b m
    → IsPairOf clause (record { first = m; second = b })
pair_found steps clause b m has found = record { first = found.inside; second = has; apart = lit_apart b m found.apart }

-- a literal that is not false is another one than a false one
pub unfalse_apart : (steps : List Step) (m a : Lit) → is_false steps m ≡ false → is_false steps a ≡ true → lit_eq m a ≡ false
unfalse_apart steps m a unfalse gone =
    elim (either (lit_eq m a)) [
      | inl same ↦ absurd (false≢true (sym unfalse ∙ ap (is_false steps) (lit_eq-true m a same) ∙ gone))
      | inr apart ↦ apart
    ]

-- a pair gives way to another
other_guarded : (front steps : List Step) (n : ℕ) (before after : Pair) (a : Lit) → IsFront front steps → is_false steps a ≡ true → is_false steps after.first ≡ false
    → IsOther before a after.second → IsGuarded (take n front) front before.first before.second → IsGuarded (take n front) front after.first after.second
other_guarded front steps n before after a f gone unfalse (inl e) here =
    guarded_moved front steps n a after.second after.first f gone unfalse
    (subst (λ (x : Lit). IsGuarded (take n front) front x after.second) e.0 (subst (λ (x : Lit). IsGuarded (take n front) front before.first x) e.1 here))
other_guarded front steps n before after a f gone unfalse (inr e) here =
    guarded_moved front steps n a after.second after.first f gone unfalse
    (subst (λ (x : Lit). IsGuarded (take n front) front x after.second) e.0
    (subst (λ (x : Lit). IsGuarded (take n front) front before.second x) e.1 (guarded_swap (take n front) front before.first before.second here)))

pub keeps_moved : (steps : List Step) (pairs : List (Option Pair)) (number : ℕ) (before after : Pair) (a : Lit) → slice_get pairs number ≡ Some (Some before)
    → is_false steps a ≡ true → is_false steps after.first ≡ false → IsOther before a after.second → KeepsGuards steps pairs (set pairs number (Some after))
keeps_moved steps pairs number before after a was gone unfalse other n front f all place pair e =
    elim (place_either number place) [
      | inl same ↦
          let now = get_set pairs number (Some after) (Some before) was in
          let is : after ≡ pair = same_Some after pair (same_Some (Some after) (Some pair) (sym now ∙ ap (slice_get (set pairs number (Some after))) same ∙ e)) in
          subst (λ (x : Pair). IsGuarded (take n front) front x.first x.second) is (other_guarded front steps n before after a f gone unfalse other (all number before was))
      | inr differs ↦ all place pair (sym (get_set_other pairs number place (Some after) differs) ∙ e)
    ]

done_apart : (steps : List Step) (a : Lit) (pair : Pair) → lit_eq pair.first a ≡ false → lit_eq pair.second a ≡ false → IsDone steps a pair
done_apart steps a pair first second = (λ e. absurd (false≢true (sym first ∙ e)), λ e. absurd (false≢true (sym second ∙ e)))

pub visited_moved : (w u : Watching) (steps : List Step) (a : Lit) (place number : ℕ) (before after : Pair) → IsRewatched w u → Covers (is_fixed steps) u → u.pairs.items ≡ set w.pairs.items number (Some after)
    → ((j : ℕ) → j < place → slice_get (list_for u.lists a) j ≡ slice_get (list_for w.lists a) j) → IsPairAt w number before
    → is_false steps a ≡ true → is_false steps after.first ≡ false → IsOther before a after.second → lit_eq after.second a ≡ false
    → IsVisited w steps u steps a place
visited_moved w u steps a place number before after rewatched covers is below was gone unfalse other apart = record {
  rewatched = rewatched;
  covers = covers;
  steps = propagates_none (held w) steps;
  keeps = subst (λ xs. KeepsGuards steps w.pairs.items xs) (sym is) (keeps_moved steps w.pairs.items number before after a was gone unfalse other);
  below = below;
  done = λ n pair e. elim (place_either number n) [
    | inl same ↦
        let now = get_set w.pairs.items number (Some after) (Some before) was in
        let there : slice_get (set w.pairs.items number (Some after)) n ≡ Some (Some pair) = ap (λ xs. slice_get xs n) (sym is) ∙ e in
        let is_after : after ≡ pair = same_Some after pair (same_Some (Some after) (Some pair) (sym now ∙ ap (slice_get (set w.pairs.items number (Some after))) same ∙ there)) in
        inr (subst (λ (x : Pair). IsDone steps a x) is_after (done_apart steps a after (unfalse_apart steps after.first a unfalse gone) apart))
    | inr differs ↦ inl (sym (get_set_other w.pairs.items number n (Some after) differs) ∙ ap (λ xs. slice_get xs n) (sym is) ∙ e)
  ];
}

pub visited_kept : (w u : Watching) (steps : List Step) (a : Lit) (place : ℕ) → IsRewatched w u → Covers (is_fixed steps) u → u.pairs.items ≡ w.pairs.items
    → ((j : ℕ) → j < place → slice_get (list_for u.lists a) j ≡ slice_get (list_for w.lists a) j) → IsVisited w steps u steps a place
visited_kept w u steps a place rewatched covers is below = record {
  rewatched = rewatched;
  covers = covers;
  steps = propagates_none (held w) steps;
  keeps = subst (λ xs. KeepsGuards steps w.pairs.items xs) (sym is) (keeps_same steps w.pairs.items);
  below = below;
  done = λ n pair e. inl (ap (λ xs. slice_get xs n) (sym is) ∙ e);
}

-- nothing came
pub visited_same : (w : Watching) (steps later : List Step) (a : Lit) (place : ℕ) → IsStored w → later ≡ steps → Covers (is_fixed steps) w → IsVisited w steps w later a place
visited_same w steps later a place stored same covers =
    subst (λ xs. IsVisited w steps w xs a place) (sym same)
    (visited_kept w w steps a place (record { arena = refl; places = refl; singles = refl; stored = stored }) covers refl (λ j under. refl))

-- the other literal came
pub visited_forced : (w : Watching) (steps later : List Step) (a b : Lit) (place number : ℕ) (clause : List Lit) → IsStored w → slice_get (held w) number ≡ Some clause
    → is_unit_for steps clause b ≡ true → later ≡ steps ++ forced b (number + 1) ∷ [] → Covers (is_fixed steps) w → IsVisited w steps w later a place
visited_forced w steps later a b place number clause stored is unit came covers =
    subst (λ xs. IsVisited w steps w xs a place) (sym came) (record {
      rewatched = record { arena = refl; places = refl; singles = refl; stored = stored };
      steps = propagates_one (held w) steps (forced b (number + 1)) (forced_at (held w) number steps clause b is unit);
      keeps = keeps_same steps w.pairs.items;
      covers = covers_front steps (steps ++ forced b (number + 1) ∷ []) w (forced b (number + 1) ∷ [], refl) covers;
      below = λ j under. refl;
      done = λ n pair e. inl e;
    })

-- A clause with a true literal.

pub beside_told : (w : Watching) (n : ℕ) (a : Lit) (pair : Pair) (o : Option Lit) → IsPairAt w n pair → StandsBeside pair a o → IsWatchedBeside w n a o
beside_told w n a pair None at e = λ p there.
    let is : pair ≡ p = same_Some pair p (same_Some (Some pair) (Some p) (sym at ∙ there)) in
    subst (λ (x : Pair). (lit_eq x.first a ≡ false) × (lit_eq x.second a ≡ false)) is e
beside_told w n a pair (Some b) at e = (pair, at, e)

-- a true literal is another one than a false one
true_apart : (steps : List Step) (a b : Lit) → is_true steps b ≡ true → is_false steps a ≡ true → lit_eq b a ≡ false
true_apart steps a b holds gone =
    elim (either (lit_eq b a)) [
      | inl same ↦ absurd (one_value (value_of steps a.var) a.positive (ap (is_true steps) (sym (lit_eq-true b a same)) ∙ holds) gone)
      | inr apart ↦ apart
    ]

unlisted_rewatched : (w u : Watching) (a : Lit) (place : ℕ) → IsStored w → IsUnlisted w u a place → IsRewatched w u
unlisted_rewatched w u a place stored g = record {
  arena = g.arena;
  places = g.places;
  singles = g.singles;
  stored =
      stores_same w.arena u.arena w.places.items u.places.items w.pairs.items u.pairs.items w.singles.items u.singles.items
      g.arena (ap (λ v. v.items) g.places) (ap (λ v. v.items) g.pairs) (ap (λ v. v.items) g.singles) stored;
}

pub visited_skipped : (w u : Watching) (steps : List Step) (a b : Lit) (place number : ℕ) (pair : Pair) (r : Visited) → IsStored w → Covers (is_fixed steps) w
    → slice_get (list_for w.lists a) place ≡ Some number → IsPairAt w number pair → IsOther pair a b → is_false steps a ≡ true → is_true steps b ≡ true
    → SkipSays w u steps a b place r → IsVisited w steps u steps a place
visited_skipped w u steps a b place number pair Stands stored covers entry at other gone holds same =
    subst (λ x. IsVisited w steps x steps a place) (sym same) (visited_same w steps steps a place stored refl covers)
visited_skipped w u steps a b place number pair Left stored covers entry at other gone holds says =
    visited_kept w u steps a place (unlisted_rewatched w u a place stored says.0)
    (subst (λ xs. AreCovered (is_fixed steps) u.lists xs) (sym (ap (λ v. v.items) says.0.pairs))
    (covered_unlisted (is_fixed steps) w.pairs.items w.lists u.lists a b place number pair entry at other says.1 (true_apart steps a b holds gone) says.0.without says.0.others covers))
    (ap (λ v. v.items) says.0.pairs) says.0.without.below
visited_skipped w u steps a b place number pair (Conflict n) stored covers entry at other gone holds none = absurd none

-- the literal that came is true
pub true_comes : (steps : List Step) (a : Lit) (r : Option ℕ) → value_of steps a.var ≡ None → is_true (steps ++ step a r ∷ []) a ≡ true
true_comes steps a r fresh =
    ap (λ p. is_value (option_map (λ (s : Step). s.literal.positive) p) a.positive) (step_comes steps (step a r) (no_step _ fresh)) ∙ bool_eq-same a.positive

-- where the other literal is true
done_other : (steps : List Step) (pair : Pair) (a b : Lit) → lit_eq b a ≡ false → IsOther pair a b → is_true steps b ≡ true → IsDone steps a pair
done_other steps pair a b apart (inl e) holds = (λ f. ap (is_true steps) e.1 ∙ holds, λ f. absurd (false≢true (sym apart ∙ ap (λ (x : Lit). lit_eq x a) (sym e.1) ∙ f)))
done_other steps pair a b apart (inr e) holds = (λ f. absurd (false≢true (sym apart ∙ ap (λ (x : Lit). lit_eq x a) (sym e.1) ∙ f)), λ f. ap (is_true steps) e.1 ∙ holds)

pub says_skipped : (w u : Watching) (steps : List Step) (a b : Lit) (place number : ℕ) (pair : Pair) (r : Visited) → IsPairAt w number pair → IsOther pair a b
    → is_false steps a ≡ true → is_true steps b ≡ true → SkipSays w u steps a b place r → VisitSays w u steps a number r
says_skipped w u steps a b place number pair Stands at other gone holds same = (
  ap (λ (x : Watching). x.lists) same,
  λ p e.
      let is : pair ≡ p = same_Some pair p (same_Some (Some pair) (Some p) (sym at ∙ ap (λ (x : Watching). slice_get x.pairs.items number) (sym same) ∙ e)) in
      subst (λ (x : Pair). IsDone steps a x) is (done_other steps pair a b (true_apart steps a b holds gone) other holds),
)
says_skipped w u steps a b place number pair Left at other gone holds says = says.0.without.shorter
says_skipped w u steps a b place number pair (Conflict n) at other gone holds none = absurd none

pub done_true : (steps : List Step) (clause : List Lit) (pair : Pair) (a b : Lit) → IsPairOf clause pair → IsOther pair a b → is_true steps b ≡ true → IsDone steps a pair
done_true steps clause pair a b of other holds = done_other steps pair a b (other_apart clause pair a b of other) other holds

-- Clauses without two different literals.

pub first_inside : (clause : List Lit) (a : Lit) → slice_get clause 0 ≡ Some a → has_literal clause a ≡ true
first_inside [] a e = absurd (none-some a e)
first_inside (b ∷ clause) a e = or_left (lit_eq a b) (list_any (lit_eq a) clause) (ap (lit_eq a) (same_Some b a e) ∙ lit_eq-same a)

pub single_false : (steps : List Step) (clause : List Lit) (a : Lit) → IsSingle clause → has_literal clause a ≡ true → is_false steps a ≡ true → is_falsified steps clause ≡ true
single_false steps clause a single has gone =
    all_from (is_false steps) clause (λ b in_b. ap (is_false steps) (lit_eq-true b a (single b a in_b has)) ∙ gone)

pub single_unit : (steps : List Step) (clause : List Lit) (a : Lit) → IsSingle clause → has_literal clause a ≡ true → is_some (value_of steps a.var) ≡ false
    → is_unit_for steps clause a ≡ true
single_unit steps clause a single has none =
    and_from _ _ has (and_from _ _ (ap not none) (all_from (λ b. lit_eq a b || is_false steps b) clause (λ b in_b. or_left _ _ (single a b has in_b))))

pub single_from : (clause : List Lit) (a : Lit) (found : Option Lit) → found ≡ None → IfNone found (list_all (lit_eq a) clause ≡ true) → IsSingle clause
single_from clause a None e all x y in_x in_y =
    ap (λ (z : Lit). lit_eq z y) (sym (lit_eq-true a x (all_has (lit_eq a) clause x all in_x))) ∙ all_has (lit_eq a) clause y all in_y
single_from clause a (Some b) e all x y in_x in_y = absurd (none-some b (sym e))
