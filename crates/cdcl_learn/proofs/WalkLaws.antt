-- Laws of the walk back over a trail.
use Rattle.std.proofs.Common.{◌≡◌, ℕ, zero, suc, ◌+◌, ◌-◌, ◌<◌, ◌≤◌, Bool, true, false, not, ◌&&◌, ◌||◌, List, [], ◌∷◌, ◌++◌, length, get_or, take, drop, reverse, Option, Some, None, refl, ap, sym, subst, ◌∙◌, ◌⊎◌, inl, inr, arith, append_assoc}
use Rattle.std.specs.Prelude.{is_some, is_none}
use Rattle.std.specs.List.{list_any, list_all}
use Rattle.std.specs.Option.{option_map, IsSome}
use Rattle.std.proofs.lemmas.List.{append-nil, take-append-drop, take_more, take_all, take-take, take-map, drop-take, length-map, reverse-append}
use Rattle.std.proofs.lemmas.Bool.{false≢true, and_parts, and_from, or_cases, or_left, or_right, cond-true, cond-false, le-leb, leb-true}
use Rattle.std.proofs.Math.Dec.{leb}
use Rattle.std.proofs.lemmas.Bool.Decides.{leb_tells}
use Rattle.std.proofs.lemmas.Option.{none-some, same_Some, slice_get-get_or, slice_get_within}
use Rattle.proof_semantics.specs.Clauses.{lit_eq, negation, has_literal, is_part, is_subsumed}
use Rattle.proof_semantics.specs.declared.literals.Lit.{Lit}
use Rattle.proof_semantics.proofs.LiteralLaws.{lit_eq-true, lit_eq-same, bool_eq-same}
use Rattle.cdcl_trail.specs.Trails.{Step, step, opened_by, literals_of, reasons_in, step_of, value_of, level, up_to_level, lower_steps}
use Rattle.cdcl_trail.specs.Propagation.{is_value, is_true, is_false, is_falsified, is_unit_for, is_unit, is_complete, IsConflict}
use Rattle.cnf.specs.Clauses.{clause_numbered}
use Rattle.cdcl_learn.proofs.FreshLaws.{IsFresh, AreFresh, IsFreshTrail, fresh_at}
use Rattle.cdcl_trail.proofs.TrailLaws.{either, not-true, or_neither, or_both}
use Rattle.cdcl_trail.proofs.ScanLaws.{all_has, any_gives, any_has, no_value, untrue, unvalued_test}
use Rattle.cdcl_trail.proofs.PassLaws.{step_comes, no_step, complete_at, held_at}
use Rattle.cdcl_trail.proofs.PrefixLaws.{all_from, not_all_gives, step_more, false_more, true_more, none_before, false_before}
use Rattle.cdcl_learn.specs.Walking.{IsLastAssumed, IsResolvent, Explains, IsConflictCut, IsAtPoint, IsLearned}
use Rattle.cdcl_learn.proofs.ExplainLaws.{explains_conflict, explains_resolvent, explained_ends}

abbrev Has : List Lit → Lit → Type 0
Has lits a = has_literal lits a ≡ true

-- The last level.

some_at : (reasons : List (Option ℕ)) (i : ℕ) (d : Option ℕ) → list_all (λ reason. is_some reason) reasons ≡ true → i < length reasons → is_some (get_or reasons i d) ≡ true
some_at [] i d all below = absurd (omega (arith, below))
some_at (r ∷ reasons) zero d all below = (and_parts _ _ all).0
some_at (r ∷ reasons) (suc i) d all below = some_at reasons i d (and_parts _ _ all).1 (omega (arith, below))

opened_zero : (r : Option ℕ) → is_some r ≡ true → opened_by r + 0 ≡ 0
opened_zero None e = absurd (false≢true e)
opened_zero (Some n) e = refl

forced_below : (xs : List Step) → list_all (λ reason. is_some reason) (reasons_in xs) ≡ true → level xs ≡ 0
forced_below [] all = refl
forced_below (x ∷ xs) all =
    let parts = and_parts _ _ all in
    ap (λ n. opened_by x.reason + n) (forced_below xs parts.1) ∙ opened_zero x.reason parts.0

level_deep : (xs : List Step) (place : ℕ) → IsLastAssumed (reasons_in xs) place → 0 < level xs
level_deep [] place last = absurd (none-some _ last.at)
level_deep (x ∷ xs) zero last = omega (arith, ap opened_by (same_Some x.reason None last.at))
level_deep (x ∷ xs) (suc place) last =
    omega (arith, level_deep xs place (record { at = last.at; behind = last.behind }))

-- the lower levels are what stands before the last assumed literal
pub lower_before : (xs : List Step) (place : ℕ) → IsLastAssumed (reasons_in xs) place → lower_steps xs ≡ take place xs
lower_before [] place last = absurd (none-some _ last.at)
lower_before (x ∷ xs) zero last =
    let opens : opened_by x.reason ≡ 1 = ap opened_by (same_Some x.reason None last.at) in
    let flat : level xs ≡ 0 = forced_below xs last.behind in
    cond-false (leb (opened_by x.reason) (level (x ∷ xs) - 1)) (x ∷ up_to_level (level (x ∷ xs) - 1 - opened_by x.reason) xs) []
    (untrue _ (λ e. omega (arith, opens, flat, leb-true (opened_by x.reason) (level (x ∷ xs) - 1) e)))
lower_before (x ∷ xs) (suc place) last =
    let later : IsLastAssumed (reasons_in xs) place = record { at = last.at; behind = last.behind } in
    let deep = level_deep xs place later in
    cond-true (leb (opened_by x.reason) (level (x ∷ xs) - 1)) (x ∷ up_to_level (level (x ∷ xs) - 1 - opened_by x.reason) xs) []
    (le-leb (opened_by x.reason) (level (x ∷ xs) - 1) (omega (arith, deep)))
    ∙ ap (λ n. x ∷ up_to_level n xs) (omega (arith, deep))
    ∙ ap (λ ys. x ∷ ys) (lower_before xs place later)

assumed_at : (r : Option ℕ) (n : ℕ) (later : Bool) → 0 < opened_by r + n → (0 < n → later ≡ true) → (is_none r || later) ≡ true
assumed_at None n later above rest = refl
assumed_at (Some number) n later above rest = rest (omega (arith, above))

pub level_assumes : (xs : List Step) → 0 < level xs → list_any (λ reason. is_none reason) (reasons_in xs) ≡ true
level_assumes [] above = absurd (omega (arith, above))
level_assumes (x ∷ xs) above = assumed_at x.reason (level xs) _ above (level_assumes xs)

-- What stands at a place.

pub literal_at : (xs : List Step) (i : ℕ) (d : Step) (e : Lit) → i < length xs → get_or (literals_of xs) i e ≡ (get_or xs i d).literal
literal_at [] i d e below = absurd (omega arith)
literal_at (x ∷ xs) zero d e below = refl
literal_at (x ∷ xs) (suc i) d e below = literal_at xs i d e (omega arith)

pub reason_here : (xs : List Step) (i : ℕ) (d : Step) (e : Option ℕ) → i < length xs → get_or (reasons_in xs) i e ≡ (get_or xs i d).reason
reason_here [] i d e below = absurd (omega arith)
reason_here (x ∷ xs) zero d e below = refl
reason_here (x ∷ xs) (suc i) d e below = reason_here xs i d e (omega arith)

-- The start: the conflict.

pub start_way : (clauses : List (List Lit)) (steps : List Step) (start place number : ℕ) (held clause : List Lit) (hints : List ℕ)
    → clause_numbered clauses number ≡ Some held → is_falsified steps held ≡ true → length steps ≤ place
    → is_complete clauses (lower_steps steps) ≡ true → lower_steps steps ≡ take start steps
    → ((a : Lit) → has_literal clause a ≡ has_literal held a) → hints ≡ number ∷ []
    → IsConflictCut clauses steps start place clause (reverse hints)
start_way clauses steps start place number held clause hints is falsified past complete lower same one =
    let some = not_all_gives (is_false (take start steps)) held
    (ap (λ xs. is_falsified xs held) (sym lower) ∙ complete_at clauses (number - 1) (lower_steps steps) held (held_at clauses number held is) complete) in
    record {
      within = λ a has. ap (λ xs. is_false xs a) (take_all place steps past) ∙ all_has (is_false steps) held a falsified (sym (same a) ∙ has);
      above = (some.0, same some.0 ∙ some.1, some.2);
      explained = subst (λ h. Explains clauses steps clause h) (sym (ap reverse one)) (explains_conflict clauses steps number held clause is same);
    }

-- A step that leaves the clause.

pub step_in : (steps : List Step) (i : ℕ) (d : Step) → i < length steps → take (i + 1) steps ≡ take i steps ++ get_or steps i d ∷ []
step_in steps i d below = take_more steps i d below

pub way_on : (clauses : List (List Lit)) (steps : List Step) (start i : ℕ) (d : Step) (clause : List Lit) (hints : List ℕ) → i < length steps
    → has_literal clause (negation (get_or steps i d).literal) ≡ false
    → IsConflictCut clauses steps start (i + 1) clause hints → IsConflictCut clauses steps start i clause hints
way_on clauses steps start i d clause hints below lacks way = record {
  within = λ a has.
      false_before (take i steps) (get_or steps i d) a (ap (λ xs. is_false xs a) (sym (step_in steps i d below)) ∙ way.within a has)
      (untrue _ (λ same. false≢true (sym lacks ∙ ap (has_literal clause) (sym (lit_eq-true a _ same)) ∙ has)));
  above = way.above;
  explained = way.explained;
}

-- The literals between the start of the level and a place.

between : (steps : List Step) (start i : ℕ) → start ≤ i → take i steps ≡ take start steps ++ take (i - start) (drop start steps)
between steps start i below =
    sym (take-append-drop start (take i steps))
    ∙ ap (λ xs. xs ++ drop start (take i steps)) (take-take start i steps below)
    ∙ ap (λ n. take start steps ++ drop start (take n steps)) (omega (arith, below))
    ∙ ap (λ xs. take start steps ++ xs) (drop-take start (i - start) steps)

drop_literals : (n : ℕ) (steps : List Step) → drop n (literals_of steps) ≡ literals_of (drop n steps)
drop_literals zero steps = refl
drop_literals (suc n) [] = refl
drop_literals (suc n) (x ∷ steps) = drop_literals n steps

between_literals : (steps : List Step) (start i : ℕ) → take (i - start) (drop start (literals_of steps)) ≡ literals_of (take (i - start) (drop start steps))
between_literals steps start i =
    ap (take (i - start)) (drop_literals start steps) ∙ take-map (λ (s : Step). s.literal) (i - start) (drop start steps)

false_below : (xs ys : List Step) (clause : List Lit) (a : Lit) → Has clause a → list_any (λ l. has_literal clause (negation l)) (literals_of ys) ≡ false
    → is_false (xs ++ ys) a ≡ true → is_false xs a ≡ true
false_below xs [] clause a has none falsified = ap (λ zs. is_false zs a) (sym (append-nil xs)) ∙ falsified
false_below xs (y ∷ ys) clause a has none falsified =
    let parts = or_neither _ _ none in
    let one : is_false (xs ++ y ∷ []) a ≡ true =
    false_below (xs ++ y ∷ []) ys clause a has parts.1 (ap (λ zs. is_false zs a) (append_assoc xs (y ∷ []) ys) ∙ falsified) in
    false_before xs y a one (untrue _ (λ same. false≢true (sym parts.0 ∙ ap (has_literal clause) (sym (lit_eq-true a (negation y.literal) same)) ∙ has)))

-- one of the literals, and what stands before it
found_in : (f : Lit → Bool) (ys : List Step) → list_any f (literals_of ys) ≡ true
    → (front : List Step) × (y : Step) × (back : List Step) × (ys ≡ front ++ y ∷ back) × (f y.literal ≡ true)
found_in f [] any = absurd (false≢true any)
found_in f (y ∷ ys) any =
    elim (or_cases _ _ any) [
      | inl here ↦ ([], y, ys, refl, here)
      | inr later ↦ let found = found_in f ys later in (y ∷ found.0, found.1, found.2, ap (λ zs. y ∷ zs) found.3, found.4)
    ]

-- what came is fresh after what came before
fresh_in : (clauses : List (List Lit)) (before front : List Step) (y : Step) (back : List Step) → AreFresh clauses before (front ++ y ∷ back)
    → value_of (before ++ front) y.literal.var ≡ None
fresh_in clauses before [] y back all = subst (λ b. value_of b y.literal.var ≡ None) (sym (append-nil before)) all.0.fresh
fresh_in clauses before (x ∷ front) y back all =
    subst (λ b. value_of b y.literal.var ≡ None) (append_assoc before (x ∷ []) front) (fresh_in clauses (before ++ x ∷ []) front y back all.1)

reasons_split : (clauses : List (List Lit)) (before xs ys : List Step) → AreFresh clauses before (xs ++ ys) → AreFresh clauses before xs × AreFresh clauses (before ++ xs) ys
reasons_split clauses before [] ys all = (tt, subst (λ b. AreFresh clauses b ys) (sym (append-nil before)) all)
reasons_split clauses before (x ∷ xs) ys all =
    let later = reasons_split clauses (before ++ x ∷ []) xs ys all.1 in
    ((all.0, later.0), subst (λ b. AreFresh clauses b ys) (append_assoc before (x ∷ []) xs) later.1)

-- a literal between the start and a place has no value at the start, and has one at the place
pub record IsBetween (steps : List Step) (start i : ℕ) (a : Lit) : Type 0 where
  pub fresh : value_of (take start steps) a.var ≡ None
  pub valued : (x : Step) × (step_of (take i steps) a.var ≡ Some x)

found_between : (clauses : List (List Lit)) (steps : List Step) (start i : ℕ) (f : Lit → Bool) → IsFreshTrail clauses steps → start ≤ i
    → list_any f (take (i - start) (drop start (literals_of steps))) ≡ true → (a : Lit) × (f a ≡ true) × IsBetween steps start i a
found_between clauses steps start i f reasoned below any =
    let found = found_in f (take (i - start) (drop start steps)) (ap (list_any f) (sym (between_literals steps start i)) ∙ any) in
    let front = found.0 in
    let y = found.1 in
    let back = found.2 in
    let cut : take i steps ≡ take start steps ++ (front ++ y ∷ back) = between steps start i below ∙ ap (λ zs. take start steps ++ zs) found.3 in
    let whole : AreFresh clauses [] (take i steps ++ drop i steps) = subst (λ xs. AreFresh clauses [] xs) (sym (take-append-drop i steps)) reasoned in
    let lower : AreFresh clauses [] (take start steps ++ (front ++ y ∷ back)) = subst (λ xs. AreFresh clauses [] xs) cut (reasons_split clauses [] (take i steps) (drop i steps) whole).0 in
    let fresh : value_of (take start steps ++ front) y.literal.var ≡ None =
    fresh_in clauses (take start steps) front y back (reasons_split clauses [] (take start steps) (front ++ y ∷ back) lower).1 in (
      y.literal,
      found.4,
      record {
        fresh = none_before (take start steps) front y.literal.var fresh;
        valued = (
          y,
          ap (λ xs. step_of xs y.literal.var) (cut ∙ sym (append_assoc (take start steps) front (y ∷ back)) ∙ sym (append_assoc (take start steps ++ front) (y ∷ []) back))
              ∙ step_more ((take start steps ++ front) ++ y ∷ []) back y.literal.var y (step_comes (take start steps ++ front) y (no_step _ fresh)),
        );
      },
    )

-- The end: one literal of the last level is left.

pub way_ends : (clauses : List (List Lit)) (steps : List Step) (start i : ℕ) (d : Step) (clause : List Lit) (hints : List ℕ) → IsFreshTrail clauses steps
    → start ≤ i → i < length steps → Has clause (negation (get_or steps i d).literal)
    → list_any (λ l. has_literal clause (negation l)) (take (i - start) (drop start (literals_of steps))) ≡ false
    → IsConflictCut clauses steps start (i + 1) clause hints → IsAtPoint clauses steps start clause hints
way_ends clauses steps start i d clause hints reasoned above below has none way =
    let u = (get_or steps i d).literal in
    record {
      point = negation u;
      has = has;
      falsified = ap (λ xs. is_false xs (negation u)) (sym (take-append-drop (i + 1) steps))
          ∙ false_more (take (i + 1) steps) (drop (i + 1) steps) (negation u) (way.within (negation u) has);
      fresh = none_before (take start steps) (take (i - start) (drop start steps)) u.var
          (ap (λ xs. value_of xs u.var) (sym (between steps start i above)) ∙ (fresh_at clauses [] steps i d below reasoned).fresh);
      others = λ a has_a. elim (either (lit_eq a (negation u))) [
        | inl same ↦ inl (ap (lit_eq (negation u)) (lit_eq-true a (negation u) same) ∙ lit_eq-same (negation u))
        | inr differs ↦ inr (false_below (take start steps) (take (i - start) (drop start steps)) clause a has_a
            (ap (list_any (λ l. has_literal clause (negation l))) (sym (between_literals steps start i)) ∙ none)
            (ap (λ xs. is_false xs a) (sym (between steps start i above))
            ∙ false_before (take i steps) (get_or steps i d) a (ap (λ xs. is_false xs a) (sym (step_in steps i d below)) ∙ way.within a has_a) differs))
      ];
      explained = way.explained;
    }

-- What is left then is learned.
pub point_learned : (clauses : List (List Lit)) (steps : List Step) (start : ℕ) (clause : List Lit) (hints : List ℕ) → lower_steps steps ≡ take start steps
    → IsAtPoint clauses steps start clause hints → IsLearned clauses steps clause hints
point_learned clauses steps start clause hints lower at =
    let falsified : (a : Lit) → Has clause a → is_false steps a ≡ true = λ a has. elim (at.others a has) [
      | inl same ↦ ap (is_false steps) (sym (lit_eq-true at.point a same)) ∙ at.falsified
      | inr early ↦ ap (λ xs. is_false xs a) (sym (take-append-drop start steps)) ∙ false_more (take start steps) (drop start steps) a early
    ] in
    let each : (a : Lit) → Has clause a → (lit_eq at.point a || is_false (take start steps) a) ≡ true = λ a has. elim (at.others a has) [
      | inl same ↦ or_left _ _ same
      | inr early ↦ or_right _ _ early
    ] in
    let unit : is_unit_for (take start steps) clause at.point ≡ true =
    and_from _ _ at.has (and_from _ _ (unvalued_test _ at.fresh) (all_from (λ a. lit_eq at.point a || is_false (take start steps) a) clause each)) in
    record {
      falsified = all_from (is_false steps) clause falsified;
      last_level = ap (λ xs. is_unit xs clause) lower ∙ any_has (is_unit_for (take start steps) clause) clause at.point at.has unit;
      hints_end = explained_ends clauses steps clause hints at.explained falsified;
    }

-- A step that is resolved.

pub kept_first : (r c q e f : Bool) → r ≡ ((c && not e) || (q && not f)) → c ≡ true → e ≡ false → r ≡ true
kept_first r true q false f is has differs = is
kept_first r true q true f is has differs = absurd (false≢true (sym differs))
kept_first r false q e f is has differs = absurd (false≢true has)

pub kept_second : (r c q e f : Bool) → r ≡ ((c && not e) || (q && not f)) → q ≡ true → f ≡ false → r ≡ true
kept_second r true true false false is has differs = is
kept_second r true true true false is has differs = is
kept_second r false true e false is has differs = is
kept_second r c true e true is has differs = absurd (false≢true (sym differs))
kept_second r c false e f is has differs = absurd (false≢true has)

pub came_from : (r c q e f : Bool) → r ≡ ((c && not e) || (q && not f)) → r ≡ true → ((c ≡ true) × (e ≡ false)) ⊎ ((q ≡ true) × (f ≡ false))
came_from r true q false f is has = inl (refl, refl)
came_from r c true e false is has = inr (refl, refl)
came_from r false false e f is has = absurd (false≢true (sym is ∙ has))
came_from r false true e true is has = absurd (false≢true (sym is ∙ has))
came_from r true false true f is has = absurd (false≢true (sym is ∙ has))
came_from r true true true true is has = absurd (false≢true (sym is ∙ has))

apart_lits : (a b : Lit) → (a ≡ b → ⊥) → lit_eq a b ≡ false
apart_lits a b differs = untrue _ (λ e. differs (lit_eq-true a b e))

pub flip : (a b : Lit) → lit_eq a b ≡ false → lit_eq b a ≡ false
flip a b e = apart_lits b a (λ same. false≢true (sym e ∙ ap (lit_eq a) same ∙ lit_eq-same a))

pub way_resolves : (clauses : List (List Lit)) (steps : List Step) (start i : ℕ) (d : Step) (clause more reason : List Lit) (hints : List ℕ) (number : ℕ)
    → IsFreshTrail clauses steps → start ≤ i → i < length steps
    → (get_or steps i d).reason ≡ Some number → clause_numbered clauses number ≡ Some reason → is_unit_for (take i steps) reason (get_or steps i d).literal ≡ true
    → list_any (λ l. has_literal clause (negation l)) (take (i - start) (drop start (literals_of steps))) ≡ true
    → IsResolvent clause (get_or steps i d).literal reason more
    → IsConflictCut clauses steps start (i + 1) clause hints → IsConflictCut clauses steps start i more (number ∷ hints)
way_resolves clauses steps start i d clause more reason hints number reasoned above below has_reason held unit any resolvent way =
    let s = get_or steps i d in
    let u = s.literal in
    let parts = and_parts _ _ unit in
    let rest = and_parts _ _ parts.1 in
    let fresh : value_of (take i steps) u.var ≡ None = (fresh_at clauses [] steps i d below reasoned).fresh in
    let found = found_between clauses steps start i (λ l. has_literal clause (negation l)) reasoned above any in
    let l = found.0 in
    let kept : lit_eq (negation l) (negation u) ≡ false =
    apart_lits (negation l) (negation u) (λ same.
    none-some found.2.valued.0.literal.positive
    (sym (ap (λ n. value_of (take i steps) n) (ap (λ (b : Lit). b.var) same) ∙ fresh) ∙ ap (option_map (λ (x : Step). x.literal.positive)) found.2.valued.1)) in
    let holds : is_true steps u ≡ true =
    ap (λ xs. is_true xs u) (sym (take-append-drop (i + 1) steps))
    ∙ true_more (take (i + 1) steps) (drop (i + 1) steps) u
    (ap (λ xs. is_true xs u) (step_in steps i d below)
    ∙ ap (λ o. is_value (option_map (λ (x : Step). x.literal.positive) o) u.positive) (step_comes (take i steps) s (no_step _ fresh)) ∙ bool_eq-same u.positive) in
    record {
      within = λ a has. elim (came_from _ _ _ _ _ (resolvent a) has) [
        | inl first ↦ false_before (take i steps) s a (ap (λ xs. is_false xs a) (sym (step_in steps i d below)) ∙ way.within a first.0) first.1
        | inr second ↦ elim (or_cases _ _ (all_has (λ b. lit_eq u b || is_false (take i steps) b) reason a rest.1 second.0)) [
          | inl same ↦ absurd (false≢true (sym (flip a u second.1) ∙ same))
          | inr falsified ↦ falsified
        ]
      ];
      above = (
        negation l,
        kept_first _ _ _ _ _ (resolvent (negation l)) found.1 kept,
        ap (λ o. is_value o (not (not l.positive))) found.2.fresh,
      );
      explained = explains_resolvent clauses steps number reason clause more u hints held holds parts.0
          (λ a has. elim (either (lit_eq u a)) [ inl same ↦ inl same | inr differs ↦ inr (kept_second _ _ _ _ _ (resolvent a) has (flip u a differs)) ])
          (λ a has. elim (either (lit_eq a (negation u))) [ inl same ↦ inl same | inr differs ↦ inr (kept_first _ _ _ _ _ (resolvent a) has differs) ])
          way.explained;
    }

-- The literal of a step is true with it.
true_here : (clauses : List (List Lit)) (steps : List Step) (i : ℕ) (d : Step) → IsFreshTrail clauses steps → i < length steps
    → is_true (take (i + 1) steps) (get_or steps i d).literal ≡ true
true_here clauses steps i d reasoned below =
    let s = get_or steps i d in
    ap (λ xs. is_true xs s.literal) (step_in steps i d below)
    ∙ ap (λ o. is_value (option_map (λ (x : Step). x.literal.positive) o) s.literal.positive)
    (step_comes (take i steps) s (no_step _ (fresh_at clauses [] steps i d below reasoned).fresh))
    ∙ bool_eq-same s.literal.positive

-- A literal of a lower level that is resolved leaves the point.
pub point_resolves : (clauses : List (List Lit)) (steps : List Step) (start i : ℕ) (d : Step) (clause more reason : List Lit) (hints : List ℕ) (number : ℕ)
    → IsFreshTrail clauses steps → i < start → i < length steps
    → clause_numbered clauses number ≡ Some reason → is_unit_for (take i steps) reason (get_or steps i d).literal ≡ true
    → IsResolvent clause (get_or steps i d).literal reason more
    → IsAtPoint clauses steps start clause hints → IsAtPoint clauses steps start more (number ∷ hints)
point_resolves clauses steps start i d clause more reason hints number reasoned early below held unit resolvent at =
    let before : i ≤ start = omega (arith, early) in
    let behind : i + 1 ≤ start = omega (arith, early) in
    let u = (get_or steps i d).literal in
    let parts = and_parts _ _ unit in
    let rest = and_parts _ _ parts.1 in
    let here = true_here clauses steps i d reasoned below in
    let soon : is_true (take start steps) u ≡ true =
    ap (λ xs. is_true xs u) (between steps (i + 1) start behind) ∙ true_more (take (i + 1) steps) (take (start - (i + 1)) (drop (i + 1) steps)) u here in
    let holds : is_true steps u ≡ true = ap (λ xs. is_true xs u) (sym (take-append-drop (i + 1) steps)) ∙ true_more (take (i + 1) steps) (drop (i + 1) steps) u here in
    let kept : lit_eq at.point (negation u) ≡ false = apart_lits at.point (negation u) (λ same.
    no_value (value_of (take start steps) u.var) u.positive (ap (λ (b : Lit). value_of (take start steps) b.var) (sym same) ∙ at.fresh) soon) in
    record {
      point = at.point;
      has = kept_first _ _ _ _ _ (resolvent at.point) at.has kept;
      falsified = at.falsified;
      fresh = at.fresh;
      others = λ a has. elim (came_from _ _ _ _ _ (resolvent a) has) [
        | inl first ↦ at.others a first.0
        | inr second ↦ elim (or_cases _ _ (all_has (λ b. lit_eq u b || is_false (take i steps) b) reason a rest.1 second.0)) [
          | inl same ↦ absurd (false≢true (sym (flip a u second.1) ∙ same))
          | inr falsified ↦ inr (ap (λ xs. is_false xs a) (between steps i start before)
              ∙ false_more (take i steps) (take (start - i) (drop i steps)) a falsified)
        ]
      ];
      explained = explains_resolvent clauses steps number reason clause more u hints held holds parts.0
          (λ a has. elim (either (lit_eq u a)) [ inl same ↦ inl same | inr differs ↦ inr (kept_second _ _ _ _ _ (resolvent a) has (flip u a differs)) ])
          (λ a has. elim (either (lit_eq a (negation u))) [ inl same ↦ inl same | inr differs ↦ inr (kept_first _ _ _ _ _ (resolvent a) has differs) ])
          at.explained;
    }

-- The walk can't go past the start of the level.
pub way_over : {P : Type 0} (clauses : List (List Lit)) (steps : List Step) (start place : ℕ) (clause : List Lit) (hints : List ℕ) → place ≡ start
    → IsConflictCut clauses steps start place clause hints → P
way_over clauses steps start place clause hints same way =
    absurd (false≢true (sym way.above.2 ∙ ap (λ n. is_false (take n steps) way.above.0) (sym same) ∙ way.within way.above.0 way.above.1))

-- What is learned contains no held clause.

part_unit : (lower : List Step) (part clause : List Lit) (u : Lit) → is_unit_for lower clause u ≡ true → is_part part clause ≡ true
    → (is_falsified lower part || is_unit lower part) ≡ true
part_unit lower part clause u unit is =
    let parts = and_parts _ _ unit in
    let rest = and_parts _ _ parts.1 in
    let each : (a : Lit) → Has part a → (lit_eq u a || is_false lower a) ≡ true = λ a has.
    all_has (λ b. lit_eq u b || is_false lower b) clause a rest.1 (all_has (has_literal clause) part a is has) in
    elim (either (has_literal part u)) [
      | inl has ↦ or_right _ _ (any_has (is_unit_for lower part) part u has
          (and_from _ _ has (and_from _ _ rest.0 (all_from (λ b. lit_eq u b || is_false lower b) part each))))
      | inr lacks ↦ or_left _ _ (all_from (is_false lower) part (λ a has. elim (or_cases _ _ (each a has)) [
        | inl same ↦ absurd (false≢true (sym lacks ∙ ap (has_literal part) (lit_eq-true u a same) ∙ has))
        | inr falsified ↦ falsified
      ]))
    ]

pub contains_none : (lower : List Step) (clauses : List (List Lit)) (clause : List Lit) → is_unit lower clause ≡ true → is_complete clauses lower ≡ true
    → is_subsumed clauses clause ≡ false
contains_none lower [] clause unit complete = refl
contains_none lower (held ∷ clauses) clause unit complete =
    let parts = and_parts _ _ complete in
    let found = any_gives (is_unit_for lower clause) clause unit in
    or_both _ _ (untrue _ (λ is. false≢true (sym (not-true _ parts.0) ∙ part_unit lower held clause found.0 found.2 is)))
    (contains_none lower clauses clause unit parts.1)

-- The reason that was read is the one of the step.
pub forced_by : (clauses : List (List Lit)) (before : List Step) (s : Step) (number : ℕ) → IsFresh clauses before s → s.reason ≡ Some number
    → (reason : List Lit) × (clause_numbered clauses number ≡ Some reason) × (is_unit_for before reason s.literal ≡ true)
forced_by clauses before s number reasoned is =
    elim reasoned.source [
      | inl none ↦ absurd (none-some number (sym none ∙ is))
      | inr forced ↦ (forced.clause, ap (clause_numbered clauses) (same_Some number forced.number (sym is ∙ forced.reason)) ∙ forced.held, forced.left)
    ]

-- behind the last assumed literal each has a reason
pub reason_behind : (reasons : List (Option ℕ)) (start i : ℕ) (d : Option ℕ) → IsLastAssumed reasons start → start < i → i < length reasons
    → is_some (get_or reasons i d) ≡ true
reason_behind [] start i d last after below = absurd (omega (arith, below))
reason_behind (r ∷ reasons) zero zero d last after below = absurd (omega (arith, after))
reason_behind (r ∷ reasons) zero (suc i) d last after below = some_at reasons i d last.behind (omega (arith, below))
reason_behind (r ∷ reasons) (suc start) zero d last after below = absurd (omega (arith, after))
reason_behind (r ∷ reasons) (suc start) (suc i) d last after below =
    reason_behind reasons start i d (record { at = last.at; behind = last.behind }) (omega (arith, after)) (omega (arith, below))

-- the clause with the number of a conflict is false
pub conflict_at : (clauses : List (List Lit)) (steps : List Step) (number : ℕ) (held : List Lit) → IsConflict clauses steps number → clause_numbered clauses number ≡ Some held
    → is_falsified steps held ≡ true
conflict_at clauses steps number held conflict is =
    ap (is_falsified steps) (same_Some held conflict.0 (sym is ∙ conflict.1)) ∙ conflict.2

pub length_literals : (steps : List Step) → length (literals_of steps) ≡ length steps
length_literals steps = length-map steps (λ (s : Step). s.literal)

pub length_reasons : (steps : List Step) → length (reasons_in steps) ≡ length steps
length_reasons steps = length-map steps (λ (s : Step). s.reason)

pub last_below : (reasons : List (Option ℕ)) (place : ℕ) → IsLastAssumed reasons place → place < length reasons
last_below reasons place last = slice_get_within reasons place None last.at

-- The same, by what the code reads.

abbrev pub no_literal : Lit
no_literal = record { var = 0; positive = false }

abbrev pub no_step_there : Step
no_step_there = step no_literal None

-- what the code reads at the place before p
pub record Reads (steps : List Step) (literals : List Lit) (p : ℕ) : Type 0 where
  pub literal : get_or literals (p - 1) no_literal ≡ (get_or steps (p - 1) no_step_there).literal
  pub below : p - 1 < length steps
  pub next : p - 1 + 1 ≡ p

pub reads : (steps : List Step) (literals : List Lit) (start p : ℕ) → literals ≡ literals_of steps → start < p → p ≤ length literals → Reads steps literals p
reads steps literals start p same after within =
    let below : p - 1 < length steps = omega (arith, after, within, ap length same, length_literals steps) in
    record {
      literal = ap (λ ls. get_or ls (p - 1) no_literal) same ∙ literal_at steps (p - 1) no_step_there no_literal below;
      below = below;
      next = omega (arith, after);
    }

pub code_on : (clauses : List (List Lit)) (steps : List Step) (start p : ℕ) (clause : List Lit) (hints : List ℕ) (literals : List Lit) (negated : Lit) (contained : Bool)
    → literals ≡ literals_of steps → start < p → p ≤ length literals → negated ≡ negation (get_or literals (p - 1) no_literal)
    → contained ≡ has_literal clause negated → contained ≡ false
    → IsConflictCut clauses steps start p clause hints → IsConflictCut clauses steps start (p - 1) clause hints
code_on clauses steps start p clause hints literals negated contained same after within negates told lacks way =
    let r = reads steps literals start p same after within in
    way_on clauses steps start (p - 1) no_step_there clause hints r.below
    (ap (has_literal clause) (sym (negates ∙ ap negation r.literal)) ∙ sym told ∙ lacks)
    (subst (λ n. IsConflictCut clauses steps start n clause hints) (sym r.next) way)

pub code_ends : (clauses : List (List Lit)) (steps : List Step) (start p : ℕ) (clause : List Lit) (hints : List ℕ) (literals : List Lit) (negated : Lit) (contained others : Bool)
    → literals ≡ literals_of steps → start < p → p ≤ length literals → negated ≡ negation (get_or literals (p - 1) no_literal)
    → contained ≡ has_literal clause negated → contained ≡ true
    → others ≡ list_any (λ l. has_literal clause (negation l)) (take (p - 1 - start) (drop start literals)) → others ≡ false
    → IsFreshTrail clauses steps
    → IsConflictCut clauses steps start p clause hints → IsAtPoint clauses steps start clause hints
code_ends clauses steps start p clause hints literals negated contained others same after within negates told has told_others none reasoned way =
    let r = reads steps literals start p same after within in
    way_ends clauses steps start (p - 1) no_step_there clause hints reasoned (omega (arith, after)) r.below
    (ap (has_literal clause) (sym (negates ∙ ap negation r.literal)) ∙ sym told ∙ has)
    (ap (λ ls. list_any (λ l. has_literal clause (negation l)) (take (p - 1 - start) (drop start ls))) (sym same) ∙ sym told_others ∙ none)
    (subst (λ n. IsConflictCut clauses steps start n clause hints) (sym r.next) way)

-- the reason that the code reads is that of the step
pub record ReadsReason (clauses : List (List Lit)) (steps : List Step) (p number : ℕ) : Type 0 where
  pub reason : (get_or steps (p - 1) no_step_there).reason ≡ Some number
  pub clause : List Lit
  pub held : clause_numbered clauses number ≡ Some clause
  pub left : is_unit_for (take (p - 1) steps) clause (get_or steps (p - 1) no_step_there).literal ≡ true

pub reads_reason : (clauses : List (List Lit)) (steps : List Step) (literals : List Lit) (reasons : List (Option ℕ)) (start p number : ℕ)
    → literals ≡ literals_of steps → reasons ≡ reasons_in steps → start < p → p ≤ length literals → get_or reasons (p - 1) None ≡ Some number
    → IsFreshTrail clauses steps → ReadsReason clauses steps p number
reads_reason clauses steps literals reasons start p number same same_reasons after within read reasoned =
    let r = reads steps literals start p same after within in
    let is : (get_or steps (p - 1) no_step_there).reason ≡ Some number =
    sym (ap (λ rs. get_or rs (p - 1) None) same_reasons ∙ reason_here steps (p - 1) no_step_there None r.below) ∙ read in
    let forced = forced_by clauses (take (p - 1) steps) (get_or steps (p - 1) no_step_there) number
    (fresh_at clauses [] steps (p - 1) no_step_there r.below reasoned) is in
    record { reason = is; clause = forced.0; held = forced.1; left = forced.2 }

some_of : {A : Type 0} (o : Option A) (x : A) → o ≡ Some x → IsSome o
some_of o x e = subst IsSome (sym e) refl

pub code_held : (clauses : List (List Lit)) (steps : List Step) (literals : List Lit) (reasons : List (Option ℕ)) (start p number : ℕ)
    → literals ≡ literals_of steps → reasons ≡ reasons_in steps → start < p → p ≤ length literals → get_or reasons (p - 1) None ≡ Some number
    → IsFreshTrail clauses steps → IsSome (clause_numbered clauses number)
code_held clauses steps literals reasons start p number same same_reasons after within read reasoned =
    let r = reads_reason clauses steps literals reasons start p number same same_reasons after within read reasoned in
    some_of _ r.clause r.held

pub code_resolves : (clauses : List (List Lit)) (steps : List Step) (start p : ℕ) (clause seen more reason : List Lit) (hints longer : List ℕ) (literals : List Lit)
    (reasons : List (Option ℕ)) (number : ℕ) (others : Bool)
    → literals ≡ literals_of steps → reasons ≡ reasons_in steps → start < p → p ≤ length literals
    → get_or reasons (p - 1) None ≡ Some number → clause_numbered clauses number ≡ Some reason
    → others ≡ list_any (λ l. has_literal clause (negation l)) (take (p - 1 - start) (drop start literals)) → others ≡ true
    → IsFreshTrail clauses steps → seen ≡ clause → IsResolvent seen (get_or literals (p - 1) no_literal) reason more
    → longer ≡ hints ++ number ∷ []
    → IsConflictCut clauses steps start p clause (reverse hints) → IsConflictCut clauses steps start (p - 1) more (reverse longer)
code_resolves clauses steps start p clause seen more reason hints longer literals reasons number others same same_reasons after within read held told_others any reasoned sees resolvent pushed way =
    let r = reads steps literals start p same after within in
    let q = reads_reason clauses steps literals reasons start p number same same_reasons after within read reasoned in
    let one : q.clause ≡ reason = same_Some q.clause reason (sym q.held ∙ held) in
    subst (λ h. IsConflictCut clauses steps start (p - 1) more h) (sym (ap reverse pushed ∙ reverse-append hints (number ∷ [])))
    (way_resolves clauses steps start (p - 1) no_step_there clause more reason (reverse hints) number reasoned (omega (arith, after)) r.below
    q.reason held (ap (λ c. is_unit_for (take (p - 1) steps) c (get_or steps (p - 1) no_step_there).literal) (sym one) ∙ q.left)
    (ap (λ ls. list_any (λ l. has_literal clause (negation l)) (take (p - 1 - start) (drop start ls))) (sym same) ∙ sym told_others ∙ any)
    (subst (λ u. IsResolvent clause u reason more) r.literal (subst (λ c. IsResolvent c (get_or literals (p - 1) no_literal) reason more) sees resolvent))
    (subst (λ n. IsConflictCut clauses steps start n clause (reverse hints)) (sym r.next) way))

-- a literal of a lower level is resolved, as the code does it
pub code_minimises : (clauses : List (List Lit)) (steps : List Step) (start place : ℕ) (clause more reason : List Lit) (hints longer : List ℕ) (literals : List Lit)
    (reasons : List (Option ℕ)) (number : ℕ)
    → literals ≡ literals_of steps → reasons ≡ reasons_in steps → place < start → place < length literals
    → get_or reasons place None ≡ Some number → clause_numbered clauses number ≡ Some reason
    → IsFreshTrail clauses steps → IsResolvent clause (get_or literals place no_literal) reason more
    → longer ≡ hints ++ number ∷ []
    → IsAtPoint clauses steps start clause (reverse hints) → IsAtPoint clauses steps start more (reverse longer)
code_minimises clauses steps start place clause more reason hints longer literals reasons number same same_reasons early within read held reasoned resolvent pushed at =
    let here : place + 1 - 1 ≡ place = omega arith in
    let r = reads steps literals 0 (place + 1) same (omega arith) (omega (arith, within)) in
    let q = reads_reason clauses steps literals reasons 0 (place + 1) number same same_reasons (omega arith) (omega (arith, within))
    (ap (λ n. get_or reasons n None) here ∙ read) reasoned in
    let one : q.clause ≡ reason = same_Some q.clause reason (sym q.held ∙ held) in
    subst (λ h. IsAtPoint clauses steps start more h) (sym (ap reverse pushed ∙ reverse-append hints (number ∷ [])))
    (point_resolves clauses steps start (place + 1 - 1) no_step_there clause more reason (reverse hints) number reasoned (omega (arith, early)) r.below held
    (ap (λ c. is_unit_for (take (place + 1 - 1) steps) c (get_or steps (place + 1 - 1) no_step_there).literal) (sym one) ∙ q.left)
    (subst (λ u. IsResolvent clause u reason more) (ap (λ n. get_or literals n no_literal) (sym here) ∙ r.literal) resolvent) at)

none_some_false : (o : Option ℕ) → o ≡ None → is_some o ≡ true → ⊥
none_some_false None e some = false≢true some
none_some_false (Some n) e some = none-some n (sym e)

-- the last assumed literal has no other of its level before it
pub code_assumed : {P : Type 0} (steps : List Step) (clause literals : List Lit) (reasons : List (Option ℕ)) (start p : ℕ) (others : Bool)
    → literals ≡ literals_of steps → reasons ≡ reasons_in steps → IsLastAssumed (reasons_in steps) start → start < p → p ≤ length literals
    → get_or reasons (p - 1) None ≡ None
    → others ≡ list_any (λ l. has_literal clause (negation l)) (take (p - 1 - start) (drop start literals)) → others ≡ true → P
code_assumed steps clause literals reasons start p others same same_reasons last after within read told_others any =
    elim (either (leb p (start + 1))) [
      | inl near ↦
          let zero_left : p - 1 - start ≡ 0 = omega (arith, leb-true p (start + 1) near, after) in
          absurd (false≢true (ap (λ n. list_any (λ l. has_literal clause (negation l)) (take n (drop start literals))) (sym zero_left) ∙ sym told_others ∙ any))
      | inr far ↦
          absurd (none_some_false (get_or (reasons_in steps) (p - 1) None) (ap (λ rs. get_or rs (p - 1) None) (sym same_reasons) ∙ read)
          (reason_behind (reasons_in steps) start (p - 1) None last (after_start start p far) (omega (arith, within, after, ap length same, length_literals steps, length_reasons steps))))
    ]
  where
    after_start : (start p : ℕ) → leb p (start + 1) ≡ false → start < p - 1
    after_start start p far = elim (leb_tells p (start + 1)) [ inl fits ↦ absurd (false≢true (sym far ∙ fits.0)) | inr over ↦ omega (arith, over.1) ]

-- what was learned, by the answer's fields
pub learned_is : (clauses : List (List Lit)) (steps : List Step) (clause told_clause : List Lit) (hints told_hints : List ℕ) → told_clause ≡ clause → told_hints ≡ hints
    → IsLearned clauses steps clause hints → IsLearned clauses steps told_clause told_hints
learned_is clauses steps clause told_clause hints told_hints same same_hints learned =
    subst (λ c. IsLearned clauses steps c told_hints) (sym same) (subst (λ h. IsLearned clauses steps clause h) (sym same_hints) learned)

-- The last assumed place, as the loop finds it.

none_is : (o : Option ℕ) (none : Bool) → is_some o ≡ not none → none ≡ true → o ≡ None
none_is None none told is = refl
none_is (Some n) none told is = absurd (false≢true (sym (told ∙ ap not is)))

pub found_last : (reasons : List (Option ℕ)) (p : ℕ) (none : Bool) → 0 < p → p ≤ length reasons → is_some (get_or reasons (p - 1) None) ≡ not none → none ≡ true
    → list_all (λ reason. is_some reason) (drop p reasons) ≡ true → IsLastAssumed reasons (p - 1)
found_last reasons p none above within told is behind =
    let next : suc (p - 1) ≡ p = omega (arith, above) in
    record {
      at = slice_get-get_or reasons (p - 1) None (omega (arith, above, within)) ∙ ap (λ o. Some o) (none_is _ none told is);
      behind = ap (λ n. list_all (λ reason. is_some reason) (drop n reasons)) next ∙ behind;
    }

not_both_kinds : (reasons : List (Option ℕ)) → list_all (λ reason. is_some reason) reasons ≡ true → list_any (λ reason. is_none reason) reasons ≡ true → ⊥
not_both_kinds [] all any = false≢true any
not_both_kinds (None ∷ reasons) all any = false≢true all
not_both_kinds (Some n ∷ reasons) all any = not_both_kinds reasons all any

pub some_is_assumed : {P : Type 0} (reasons : List (Option ℕ)) (p : ℕ) → p ≤ 0 → list_all (λ reason. is_some reason) (drop p reasons) ≡ true
    → list_any (λ reason. is_none reason) reasons ≡ true → P
some_is_assumed reasons p at_zero behind any =
    absurd (not_both_kinds reasons (ap (λ n. list_all (λ reason. is_some reason) (drop n reasons)) (zero_is p at_zero) ∙ behind) any)
  where
    zero_is : (p : ℕ) → p ≤ 0 → 0 ≡ p
    zero_is p e = omega (arith, e)
